use Rattle.std.proofs.Common.{◌≡◌, inl, inr, ℕ, List, [], ◌∷◌, ◌++◌, not, refl, ap, subst, ◌∙◌, rules, arith}
use Rattle.std.specs.Prelude.{IsTrue}
use Rattle.sqlite_value.specs.Order.{Row}
use Rattle.sqlite_trees.specs.declared.store.Store.{Ghosts}
use Rattle.sqlite.specs.Given.{IsPlain, IsRefused, HasBegun}
use Rattle.sqlite.specs.Held.{Held, state}
use Rattle.sqlite.specs.Listing.{understood}
use Rattle.sqlite.specs.State.{State, HasCleanDisk, Survives, CommitsShowing, Shown}
use Rattle.sqlite.specs.Stream.{returned}
use Rattle.sqlite.specs.Values.{bound}
use Rattle.sqlite.proofs.Callers.{given_begin, begun_plain, never_commits, unchanged_then}
use Rattle.sqlite.proofs.StateLemmas.{survives_weaker, survives_then}
use Rattle.permit_sql_statements.proofs.KeptLemmas.{shown_open, shown_still, failed_open, failed_same}
use Rattle.permit_sql_statements.proofs.Reading.{read_more, begins_since, shown_since, took_more}
use Rattle.permit_sql_statements.proofs.select.hand_rows.Goals as goal

commits_nothing : (sql : List ℕ) (params : Row) (old new : State) → (HasCleanDisk new → IsPlain (understood old.now.schema sql)) →
    Survives old new (CommitsShowing sql params old) → Survives old new (λ _. ⊥)
commits_nothing sql params old new plain = survives_weaker old new _ _ (λ clean db. never_commits sql params old db (plain clean))

survives_more : (sql : List ℕ) (params : Row) (a b c : State) → Survives a b (CommitsShowing sql params a) → Survives b c (λ _. ⊥) →
    Survives a c (CommitsShowing sql params a)
survives_more sql params a b c = survives_then a b c _ _ (CommitsShowing sql params a) (λ _ db h. h) (λ _ db none. absurd none)

ended : (sql : List ℕ) (params : Row) (old mid now end : State) → Survives old mid (CommitsShowing sql params old) → Survives mid now (λ _. ⊥) → now ≡ end →
    (HasCleanDisk end → IsPlain (understood old.now.schema sql)) → Survives old end (λ _. ⊥)
ended sql params old mid now end was moved same plain = commits_nothing sql params old end plain
    (subst (λ s. Survives old s (CommitsShowing sql params old)) same (survives_more sql params old mid now was moved))

begun_open : {S : Type 0} (g : Ghosts S) (sql : List ℕ) (params : Row) (old new : Held S) → HasBegun g sql params old new → IsTrue (state g old).is_open
    × IsTrue (state g new).is_open
begun_open g sql params old new (inl h) = (h.1.0.was_open, h.1.0.is_open)
begun_open g sql params old new (inr h) = (
  shown_open sql params (state g old) (state g new) (returned new.reading) h.1,
  shown_still sql params (state g old) (state g new) (returned new.reading) h.1,
)

pub returns-in_default-clause-handed : goal.returns-in_default-clause-handed
returns-in_default-clause-handed g c = (
  [],
  refl,
  λ clean plain. record { rows = []; are = inl refl; shown = tt },
)

pub returns-in_default-clause-query : goal.returns-in_default-clause-query
returns-in_default-clause-query g c =
    let sql = c.args.sql.now in
    let params = bound c.args.params.now in
    let last = c.query.follows.lender-at-none in
    let held = c.query.follows.holds-at-none in
    let old = state g.S.Store c.args.conn.now in
    let new = state g.S.Store last in
    let refused : IsRefused g.S.Store sql params c.args.conn.now c.query.result last = search rules in
    record {
      idle = search rules;
      fine = λ fine. (
        omega (arith, fine.0, refused.survives.clean),
        failed_open sql params old new c.in_default.field-0 fine.1 (rw c.in_default.is at (refused.err fine.0)),
      );
      same = λ fine plain.
          let settled = c.is_autocommit-settled.ensures.settled (c.is_autocommit-settled.ensures.value ∙ ap not c.requires) in
          failed_same sql params old new c.in_default.field-0 plain settled fine.1 (rw c.in_default.is at (refused.err fine.0));
      opened = search rules;
      doubt = search rules;
      crash = λ plain. commits_nothing sql params old new plain refused.survives;
    }

pub rows-init : goal.rows-init
rows-init g c =
    let sql = c.args.sql.now in
    let params = bound c.args.params.now in
    let made = c.in-Ok.ensures in (
      refl,
      made.survives.clean,
      made.survives,
      made.mode c.requires,
      [],
      refl,
      λ clean.
          let opened = begun_open g.S.Store sql params c.args.conn.now c.in-Ok.rows.conn.now (made.begun clean) in (
            opened.0,
            opened.1,
            λ plain. let begun = begun_plain g.S.Store sql params c.args.conn.now c.in-Ok.rows.conn.now plain (made.begun clean) in (begun.1, [], begun.0, tt),
          ),
    )

pub returns-in_default-next-clause-handed : goal.returns-in_default-next-clause-handed
returns-in_default-next-clause-handed g c =
    let was = c.rows.invariant in
    let moved = c.next.follows.holds-at-none in (
      was.4,
      was.5,
      λ clean plain.
          let late : HasCleanDisk (state g.S.Store c.next.follows.lender-at-none.conn.now) = search rules in
          let here = was.6 (omega (arith, moved.survives.clean, late)) in
          let it = here.2 (plain here.0) in
          let sql = c.args.sql.now in
          let params = bound c.args.params.now in
          let begins = given_begin g.S.Store sql params c.rows.rows.conn.now it.1 it.2 in
          record {
            rows = it.1;
            are = inr (
              here.0,
              begins_since sql params (state g.S.Store c.args.conn.now)
                  (state g.S.Store c.rows.rows.conn.now) it.1 it.0.0.now_is begins,
            );
            shown = it.3;
          },
    )

pub returns-in_default-next-2-clause-handed : goal.returns-in_default-next-2-clause-handed
returns-in_default-next-2-clause-handed g c =
    let was = c.rows.invariant in
    let moved = c.next.follows.holds-at-none in
    let now = c.next.follows.lender-at-none.conn.now in
    let same : now ≡ c.conn-in_default-next-2-1.given.0 = search rules in (
      was.4,
      was.5,
      λ clean plain.
          let late : HasCleanDisk (state g.S.Store now) = search rules in
          let here = was.6 (omega (arith, moved.survives.clean, late)) in
          let it = here.2 (plain here.0) in
          let sql = c.args.sql.now in
          let params = bound c.args.params.now in
          let old = state g.S.Store c.args.conn.now in
          let shown = (rw (c.in-Ok-next.is, c.in_default-next-2.is) at (moved.ok late)) sql params it.1 it.2 in
          let whole = shown_since sql params old (state g.S.Store c.rows.rows.conn.now) (state g.S.Store now) it.1 (plain here.0) it.0 shown in
          record { rows = it.1; are = subst (λ h. Shown sql params old (state g.S.Store h) it.1) same whole; shown = it.3 },
    )

pub returns-in_default-found_of-clause-handed : goal.returns-in_default-found_of-clause-handed
returns-in_default-found_of-clause-handed g c =
    let was = c.rows.invariant in
    let moved = c.next.follows.holds-at-none in (
      was.4,
      was.5,
      λ clean plain.
          let late : HasCleanDisk (state g.S.Store c.next.follows.lender-at-none.conn.now) = search rules in
          let here = was.6 (omega (arith, moved.survives.clean, late)) in
          let it = here.2 (plain here.0) in
          let sql = c.args.sql.now in
          let params = bound c.args.params.now in
          let begins = given_begin g.S.Store sql params c.rows.rows.conn.now it.1 it.2 in
          record {
            rows = it.1;
            are = inr (
              here.0,
              begins_since sql params (state g.S.Store c.args.conn.now)
                  (state g.S.Store c.rows.rows.conn.now) it.1 it.0.0.now_is begins,
            );
            shown = it.3;
          },
    )

pub returns-then-not-take-clause-handed : goal.returns-then-not-take-clause-handed
returns-then-not-take-clause-handed g c =
    let was = c.rows.invariant in
    let moved = c.next.follows.holds-at-none in
    let now = c.next.follows.lender-at-none.conn.now in
    let found = c.in-Ok-found_of.found in
    let row = c.in-Some.row.now in (
      was.4 ++ found ∷ [],
      (was.4, found, refl, c.rows.taker, was.5, rw c.if-not-take.true at c.take.ensures),
      λ clean plain.
          let late : HasCleanDisk (state g.S.Store now) = search rules in
          let here = was.6 (omega (arith, moved.survives.clean, late)) in
          let it = here.2 (plain here.0) in
          let sql = c.args.sql.now in
          let params = bound c.args.params.now in
          let old = state g.S.Store c.args.conn.now in
          let given = (rw (c.in-Ok-next.is, c.in-Some.is) at (moved.ok late)) sql params it.1 it.2 in
          let kept = rw c.in-Ok-next.is at (moved.same late) in
          let still = unchanged_then old (state g.S.Store c.rows.rows.conn.now) (state g.S.Store now) it.0 kept in
          let begins = given_begin g.S.Store sql params now (it.1 ++ row ∷ []) given in
          record {
            rows = it.1 ++ row ∷ [];
            are = (here.0, begins_since sql params old (state g.S.Store now) (it.1 ++ row ∷ []) still.0.now_is begins);
            shown = read_more c.args.upgrade it.1 was.4 row found it.3 c.in-Ok-found_of.ensures.read;
          },
    )

pub returns-in_default-next-clause-query : goal.returns-in_default-next-clause-query
returns-in_default-next-clause-query g c =
    let now = c.next.follows.lender-at-none.conn.now in
    let same : now ≡ c.conn-in_default-next-1.given.0 = search rules in
    record {
      idle = search rules;
      fine = search rules;
      same = search rules;
      opened = search rules;
      doubt = search rules;
      crash = λ plain. ended c.args.sql.now (bound c.args.params.now) (state g.S.Store c.args.conn.now) (state g.S.Store c.rows.rows.conn.now)
          (state g.S.Store now) _ c.rows.invariant.2 c.next.follows.holds-at-none.survives (ap (state g.S.Store) same) plain;
    }

pub returns-in_default-next-2-clause-query : goal.returns-in_default-next-2-clause-query
returns-in_default-next-2-clause-query g c =
    let now = c.next.follows.lender-at-none.conn.now in
    let same : now ≡ c.conn-in_default-next-2-1.given.0 = search rules in
    record {
      idle = search rules;
      fine = search rules;
      same = search rules;
      opened = search rules;
      doubt = search rules;
      crash = λ plain. ended c.args.sql.now (bound c.args.params.now) (state g.S.Store c.args.conn.now) (state g.S.Store c.rows.rows.conn.now)
          (state g.S.Store now) _ c.rows.invariant.2 c.next.follows.holds-at-none.survives (ap (state g.S.Store) same) plain;
    }

pub returns-in_default-found_of-clause-query : goal.returns-in_default-found_of-clause-query
returns-in_default-found_of-clause-query g c =
    let now = c.next.follows.lender-at-none.conn.now in
    let same : now ≡ c.conn-in_default-found_of-1.given.0 = search rules in
    record {
      idle = search rules;
      fine = search rules;
      same = search rules;
      opened = search rules;
      doubt = search rules;
      crash = λ plain. ended c.args.sql.now (bound c.args.params.now) (state g.S.Store c.args.conn.now) (state g.S.Store c.rows.rows.conn.now)
          (state g.S.Store now) _ c.rows.invariant.2 c.next.follows.holds-at-none.survives (ap (state g.S.Store) same) plain;
    }

pub returns-then-not-take-clause-query : goal.returns-then-not-take-clause-query
returns-then-not-take-clause-query g c =
    let now = c.next.follows.lender-at-none.conn.now in
    let same : now ≡ c.conn-then-not-take-1.given.0 = search rules in
    record {
      idle = search rules;
      fine = search rules;
      same = search rules;
      opened = search rules;
      doubt = search rules;
      crash = λ plain. ended c.args.sql.now (bound c.args.params.now) (state g.S.Store c.args.conn.now) (state g.S.Store c.rows.rows.conn.now)
          (state g.S.Store now) _ c.rows.invariant.2 c.next.follows.holds-at-none.survives (ap (state g.S.Store) same) plain;
    }

pub rows-preserved : goal.rows-preserved
rows-preserved g c =
    let was = c.rows.invariant in
    let moved = c.next.follows.holds-at-none in
    let now = c.next.follows.lender-at-none.conn.now in
    let old = state g.S.Store c.args.conn.now in
    let mid = state g.S.Store c.rows.rows.conn.now in
    let found = c.in-Ok-found_of.found in
    let row = c.in-Some.row.now in (
      search rules,
      omega (arith, was.1, moved.survives.clean),
      survives_more c.args.sql.now (bound c.args.params.now) old mid (state g.S.Store now) was.2 moved.survives,
      moved.mode was.3,
      was.4 ++ found ∷ [],
      took_more g.T.Taker.took was.4 found c.args.taker.now c.rows.taker c.take.new.self was.5 (rw c.if-not-take.false at c.take.ensures),
      λ clean.
          let here = was.6 (omega (arith, moved.survives.clean, clean)) in
          let kept = rw c.in-Ok-next.is at (moved.same clean) in (
            here.0,
            kept.0.is_open,
            λ plain.
                let it = here.2 plain in
                let sql = c.args.sql.now in
                let params = bound c.args.params.now in
                let given = (rw (c.in-Ok-next.is, c.in-Some.is) at (moved.ok clean)) sql params it.1 it.2 in (
                  unchanged_then old mid (state g.S.Store now) it.0 kept,
                  it.1 ++ row ∷ [],
                  given,
                  read_more c.args.upgrade it.1 was.4 row found it.3 c.in-Ok-found_of.ensures.read,
                ),
          ),
    )

pub returns-clause-handed : goal.returns-clause-handed
returns-clause-handed g c =
    let was = c.rows.invariant in (
      was.4,
      was.5,
      λ clean plain.
          let late : HasCleanDisk (state g.S.Store c.rows.rows.conn.now) = search rules in
          let here = was.6 late in
          let it = here.2 (plain here.0) in
          let sql = c.args.sql.now in
          let params = bound c.args.params.now in
          let begins = given_begin g.S.Store sql params c.rows.rows.conn.now it.1 it.2 in
          record {
            rows = it.1;
            are = inr (
              here.0,
              begins_since sql params (state g.S.Store c.args.conn.now)
                  (state g.S.Store c.rows.rows.conn.now) it.1 it.0.0.now_is begins,
            );
            shown = it.3;
          },
    )
