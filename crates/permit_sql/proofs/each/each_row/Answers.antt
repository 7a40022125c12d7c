use Rattle.std.proofs.Common.{◌≡◌, Bool, true, IsTrue, ℕ, List, [], ◌∷◌, ◌++◌, not, refl, ap, subst, ◌∙◌, rules, arith}
use Rattle.sqlite_value.specs.Order.{Row}
use Rattle.sqlite.specs.Listing.{understood}
use Rattle.sqlite.specs.State.{State, HasCleanDisk, Survives, FailsToQuery, CommitsShowing}
use Rattle.sqlite.specs.Values.{bound}
use Rattle.sqlite.specs.Held.{state}
use Rattle.sqlite.proofs.StateLemmas.{survives_weaker, survives_then}
use Rattle.sqlite.proofs.Callers.{IsPlain, given_begin, begun_plain, never_commits, unchanged_then}
use Rattle.sqlite.specs.Given.{IsRefused}
use Rattle.permit_sql.specs.Taken.{TookAll, TookRows}
use Rattle.permit_sql_statements.proofs.KeptLemmas.{failed_open, failed_same}
use Rattle.permit_sql.proofs.each.each_row.Goals as goal

commits_nothing : (sql : List ℕ) (params : Row) (old new : State) → IsPlain (understood old.now.schema sql) → Survives old new (CommitsShowing sql params old) →
    Survives old new (λ _. ⊥)
commits_nothing sql params old new plain = survives_weaker old new _ _ (λ _ db. never_commits sql params old db plain)

pub rows-init : goal.rows-init
rows-init g c =
    let made = c.in_ok-rows.ensures in (
      refl,
      commits_nothing _ _ _ _ c.requires.plain made.survives,
      λ clean. let begun =
          begun_plain g.S.Store _ _ c.args.conn.now _ c.requires.plain (made.begun clean) in ([], begun.0, begun.1, refl),
      search rules,
    )

took_more : {T : Type 0} (took : T → Row → T → Bool → Type 0) (given : List Row) (row : Row) (a b d : T) → TookAll took given a b → took b row d true →
    TookAll took (given ++ row ∷ []) a d
took_more took [] row a b d is h = (d, subst (λ x. took x row d true) is h, refl)
took_more took (r ∷ rs) row a b d all h = (all.0, all.1, took_more took rs row all.0 b d all.2 h)

pub returns-in_default-clause-ok : goal.returns-in_default-clause-ok
returns-in_default-clause-ok g c clean =
    let moved = c.next.follows.holds-at-none in
    let now = c.next.follows.lender-at-none.conn.now in
    let same : now ≡ c.conn-in_default-1.given.0 = search rules in
    let late : HasCleanDisk (state g.S.Store now) = search rules in
    let was = c.rows.invariant.2 (omega (arith, moved.survives.clean)) in
    let shown = (rw (c.in_ok-row.was, c.in_default.is) at (moved.ok late)) c.args.sql.now (bound c.args.params.now) was.0 was.1 in
    let whole : TookRows g.T.Taker.took g.S.Store c.args.sql.now (bound c.args.params.now) c.args.conn.now now c.args.taker.now c.rows.taker true =
    (was.0, c.rows.rows.conn.now, was.2, shown, was.3) in
    subst (λ h. TookRows g.T.Taker.took g.S.Store c.args.sql.now (bound c.args.params.now) c.args.conn.now h c.args.taker.now c.rows.taker true) same whole

pub returns-then-not-take-clause-ok : goal.returns-then-not-take-clause-ok
returns-then-not-take-clause-ok g c clean =
    let moved = c.next.follows.holds-at-none in
    let now = c.next.follows.lender-at-none.conn.now in
    let same : now ≡ c.conn-then-not-take-1.given.0 = search rules in
    let late : HasCleanDisk (state g.S.Store now) = search rules in
    let was = c.rows.invariant.2 (omega (arith, moved.survives.clean)) in
    let sql = c.args.sql.now in
    let params = bound c.args.params.now in
    let given = (rw (c.in_ok-row.was, c.in-Some.is) at (moved.ok late)) sql params was.0 was.1 in
    let kept = rw c.in_ok-row.was at (moved.same late) in
    let still = unchanged_then (state g.S.Store c.args.conn.now) (state g.S.Store c.rows.rows.conn.now) (state g.S.Store now) was.2 kept in (
      was.0,
      c.in-Some.row.now,
      now,
      still,
      given_begin g.S.Store sql params now (was.0 ++ c.in-Some.row.now ∷ []) given,
      (c.rows.taker, was.3, rw c.if-not-take.true at c.take.ensures),
    )

pub returns-in_default-clause-look : goal.returns-in_default-clause-look
returns-in_default-clause-look g c =
    let moved = c.next.follows.holds-at-none in
    let now = c.next.follows.lender-at-none.conn.now in
    record {
      idle = search rules;
      opened = λ clean.
          let late : HasCleanDisk (state g.S.Store now) = search rules in
          let kept = rw c.in_ok-row.was at (moved.same late) in
          let last : IsTrue (state g.S.Store now).is_open = kept.0.is_open in search rules;
      left = search rules;
      crash = search rules;
    }

pub returns-then-not-take-clause-look : goal.returns-then-not-take-clause-look
returns-then-not-take-clause-look g c =
    let moved = c.next.follows.holds-at-none in
    let now = c.next.follows.lender-at-none.conn.now in
    record {
      idle = search rules;
      opened = λ clean.
          let late : HasCleanDisk (state g.S.Store now) = search rules in
          let kept = rw c.in_ok-row.was at (moved.same late) in
          let last : IsTrue (state g.S.Store now).is_open = kept.0.is_open in search rules;
      left = search rules;
      crash = search rules;
    }

pub rows-preserved : goal.rows-preserved
rows-preserved g c =
    let moved = c.next.follows.holds-at-none in
    let now = c.next.follows.lender-at-none.conn.now in
    let sql = c.args.sql.now in
    let params = bound c.args.params.now in (
      search rules,
      survives_then (state g.S.Store c.args.conn.now) (state g.S.Store c.rows.rows.conn.now) (state g.S.Store now) _ _ (λ _. ⊥) (λ _ db none. none)
          (λ _ db none. none) c.rows.invariant.1 moved.survives,
      λ clean.
          let was = c.rows.invariant.2 (omega (arith, moved.survives.clean)) in
          let given = (rw (c.in_ok-row.was, c.in-Some.is) at (moved.ok clean)) sql params was.0 was.1 in
          let kept = rw c.in_ok-row.was at (moved.same clean) in
          let still = unchanged_then (state g.S.Store c.args.conn.now) (state g.S.Store c.rows.rows.conn.now) (state g.S.Store now) was.2 kept in (
            was.0 ++ c.in-Some.row.now ∷ [],
            given,
            still,
            took_more g.T.Taker.took was.0 c.in-Some.row.now c.args.taker.now c.rows.taker c.take.new.self was.3
                (rw c.if-not-take.false at c.take.ensures),
          ),
      moved.mode c.rows.invariant.3,
    )

pub returns-in_err-rows-clause-look : goal.returns-in_err-rows-clause-look
returns-in_err-rows-clause-look g c =
    let sql = c.args.sql.now in
    let params = bound c.args.params.now in
    let last = c.query.follows.lender-at-none in
    let old = state g.S.Store c.args.conn.now in
    let new = state g.S.Store last in
    let held = c.query.follows.holds-at-none in
    let refused : IsRefused g.S.Store sql params c.args.conn.now c.query.result last = search rules in
    record {
      idle = search rules;
      opened = search rules;
      left = λ fine.
          let failed : FailsToQuery sql params old new c.in_err-rows.field-0.0 = rw c.in_err-rows.was at (refused.err fine.0) in
          let settled = c.is_autocommit-settled.ensures.settled (c.is_autocommit-settled.ensures.value ∙ ap not c.requires.idle) in (
            (omega (arith, fine.0, refused.survives.clean), failed_open sql params old new c.in_err-rows.field-0.0 fine.1 failed),
            (failed_same sql params old new c.in_err-rows.field-0.0 c.requires.plain settled fine.1 failed).0,
          );
      crash = commits_nothing sql params old new c.requires.plain refused.survives;
    }
