use Rattle.std.proofs.Common.{◌≡◌, List, [], ◌∷◌, ◌++◌, map, take, take_all, get_or, length, ◌≤◌, Ok, true, ℕ, refl, sym, subst, ◌∙◌, arith, rules}
use Rattle.sqlite.specs.Held.{Held, state}
use Rattle.sqlite_trees.specs.declared.store.Store.{Ghosts}
use Rattle.sqlite.specs.Effect.{Database}
use Rattle.sqlite.specs.State.{HasCleanDisk, Survives, Executes}
use Rattle.sqlite.proofs.StateLemmas.{survives_then}
use Rattle.sqlite.proofs.Callers.{survives_begin}
use Rattle.permit_sql_statements.specs.Statements.{Statement, Ran, RanAll}
use Rattle.permit_sql_statements.specs.declared.statements.Statement as program
use Rattle.std.proofs.lemmas.List.{map_more}
use Rattle.permit_sql_statements.specs.TextAndParams.{text_and_params}
use Rattle.permit_sql_statements.proofs.statements.run_all.Goals as goal

abbrev no_statement : program.Statement
no_statement = record { text = record { ref_ptr = (0, 0); now = [] }; params = record { ref_ptr = (0, 0); now = [] } }

ran_more : {S : Type 0} (g : Ghosts S) (statements : List Statement) (s : Statement) (a b d : Held S) (count : ℕ) → Ran g statements a b →
    Executes s.0 s.1 (state g b) (state g d) (Ok count) → Ran g (statements ++ s ∷ []) a d
ran_more g [] s a b d count is h = (d, count, subst (λ x. Executes s.0 s.1 (state g x) (state g d) (Ok count)) is h, refl)
ran_more g (t ∷ ts) s a b d count all h = (all.0, all.1, all.2, ran_more g ts s all.0 b d count all.3 h)

pub statements-preserved : goal.statements-preserved
statements-preserved g c =
    let begun = record c.args.conn.now { in_transaction = true } in
    let was = state g.S.Store c.statements.tx.conn.now in
    let now = state g.S.Store c.execute.new.self.conn.now in (
      search rules,
      survives_then (state g.S.Store begun) was now _ _ (λ _. ⊥) (λ _ db none. none) (λ _ db none. none) c.statements.invariant.1 c.execute.ensures.survives,
      λ clean.
          let kept = c.statements.invariant.2 (omega (arith, c.execute.ensures.survives.clean)) in
          let ran = c.in_ok-execute.ensures.runs clean kept.1 in (
            subst (λ l. Ran g.S.Store l begun c.execute.new.self.conn.now)
                (sym (map_more text_and_params c.args.statements.now c.statements.statement-index no_statement (omega (arith, c.statements-test.true))))
                (ran_more g.S.Store (map text_and_params (take c.statements.statement-index c.args.statements.now))
                (text_and_params (get_or c.args.statements.now c.statements.statement-index no_statement)) begun c.statements.tx.conn.now c.execute.new.self.conn.now c.in_ok-execute.field-0 kept.0 ran.0),
            search rules,
            ran.1.committed_is ∙ kept.2,
            λ shows. kept.3 ran.1.was_open,
          ),
    )

all_ran : {S : Type 0} (g : Ghosts S) (statements : List program.Statement) (at : ℕ) (old last : Held S) → length statements ≤ at →
    Ran g (map text_and_params (take at statements)) (record old { in_transaction = true }) last
    → RanAll g (map text_and_params statements) old (state g last).now
all_ran g statements at old last whole ran = record {
  last = last;
  ran =
      subst (λ l. Ran g (map text_and_params l) (record old { in_transaction = true }) last) (take_all at statements whole) ran;
  is = refl;
}

-- the last call ends the transaction: all statements are made by it, or it leaves what was there
ended : {S : Type 0} (g : Ghosts S) (statements : List program.Statement) (at : ℕ) (old last mid end : Held S) → mid ≡ end → length statements ≤ at →
    Survives (state g (record old { in_transaction = true })) (state g last) (λ _. ⊥) →
    (HasCleanDisk (state g last) → Ran g (map text_and_params (take at statements)) (record old { in_transaction = true }) last) →
    Survives (state g last) (state g mid) (λ trees. trees ≡ (state g last).now.trees) →
    Survives (state g old) (state g end) (λ trees. (db : Database) × RanAll g (map text_and_params statements) old db × (trees ≡ db.trees))
ended g statements at old last mid end same whole before ran commits =
    subst (λ h. Survives (state g old) (state g h) (λ trees. (db : Database) × RanAll g (map text_and_params statements) old db × (trees ≡ db.trees))) same
    (survives_then (state g old) (state g last) (state g mid) _ _ _ (λ _ db none. absurd none)
    (λ clean db is. ((state g last).now, all_ran g statements at old last whole (ran (omega (arith, commits.clean, clean))), is))
    (survives_begin g old (state g last) _ before) commits)

pub returns : goal.returns
returns g c =
    let old = c.args.conn.now in
    let last = c.statements.tx.conn.now in
    let end = c.commit.new.self.0 in
    let at = c.statements.statement-index in
    let same : end ≡ c.conn-2-1.given.0 = search rules in
    record {
      all = λ clean.
          let late : HasCleanDisk (state g.S.Store end) = search rules in
          let kept = c.statements.invariant.2 (omega (arith, c.commit.ensures.survives.clean)) in
          let made = all_ran g.S.Store c.args.statements.now at old last (omega (arith, c.statements-test.false)) kept.0 in
          subst (λ h. RanAll g.S.Store (map text_and_params c.args.statements.now) old (state g.S.Store h).committed) same
          (subst (RanAll g.S.Store (map text_and_params c.args.statements.now) old) (sym (c.in_ok-commit.ensures.ok late).1.committed_is) made);
      shown = search rules;
      transaction = search rules;
      crash = ended g.S.Store c.args.statements.now at old last end _ same (omega (arith, c.statements-test.false)) c.statements.invariant.1
          (λ clean. (c.statements.invariant.2 clean).0) c.commit.ensures.survives;
    }

pub returns-in_err-commit : goal.returns-in_err-commit
returns-in_err-commit g c =
    let old = c.args.conn.now in
    let last = c.statements.tx.conn.now in
    let end = c.commit.new.self.0 in
    let at = c.statements.statement-index in
    let same : end ≡ c.conn-2-1.given.0 = search rules in
    record {
      all = search rules;
      shown = search rules;
      transaction = search rules;
      crash = ended g.S.Store c.args.statements.now at old last end _ same (omega (arith, c.statements-test.false)) c.statements.invariant.1
          (λ clean. (c.statements.invariant.2 clean).0) c.commit.ensures.survives;
    }
