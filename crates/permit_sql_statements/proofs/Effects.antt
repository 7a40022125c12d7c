-- What a text that writes makes of the trees.
use Rattle.std.proofs.Common.{◌≡◌, ◌≢◌, ℕ, ℤ, negsuc, ◌/◌, Bool, true, false, cond, List, [], ◌∷◌, length, drop, Option, Some, None, Ok, refl, ap, subst, ◌∙◌}
use Rattle.std.specs.List.{AllByRecursion}
use Rattle.sqlite.specs.declared.types.Value.{Value}
use Rattle.sqlite.specs.declared.types.Value.TheVariants.{Null, Int}
use Rattle.sqlite_value.specs.Order.{Row}
use Rattle.sqlite_trees.specs.Tree.{rowid, put_row, without_rowid}
use Rattle.sqlite_sql.specs.Term.{Term}
use Rattle.sqlite_sql.specs.Query.{Query}
use Rattle.sqlite_sql.specs.Ops.{unary}
use Rattle.sqlite_schema.specs.declared.schema.Kind.TheVariants.{Integer}
use Rattle.sqlite_schema.specs.declared.schema.Table.{Table}
use Rattle.sqlite_schema.specs.declared.command.Command.TheVariants.{Insert, Update}
use Rattle.sqlite_schema.specs.declared.command.Source.TheVariants.{Values}
use Rattle.sqlite_rules.specs.declared.error.Rowids.TheVariants.{Chosen, Given}
use Rattle.sqlite_rules.specs.Cast.{cast, cast_row}
use Rattle.sqlite_rules.specs.Calls.{ids_of}
use Rattle.sqlite_schema.specs.declared.schema.Keys.TheVariants.{Enforced}
use Rattle.sqlite_schema.specs.Rules.{Fits}
use Rattle.sqlite_rules.specs.Edit.{edit_of, edited, put_all, are_fresh, id_in, have_rowids, Applies}
use Rattle.sqlite.specs.Effect.{Database, Answers, value_rows}
use Rattle.sqlite.specs.Rows.{stamped}
use Rattle.sqlite.specs.Does.{Tally, Does, OnRows}
use Rattle.sqlite.specs.State.{State, mode_of, Executes}
use Rattle.sqlite.specs.Listing.{understood}
use Rattle.sqlite.proofs.Callers.{runs_as, statement_of, command_of, IsPlain}
use Rattle.permit_base.specs.declared.words.Step.{Step}
use Rattle.permit_sql_rows.specs.Schema.{Order, schema_in}
use Rattle.permit_sql_rows.specs.Rows.{int, or_zero, or_minus_one, step_value, flag}
use Rattle.permit_sql_statements.proofs.QueryTexts.{alone}
use Rattle.permit_sql_statements.proofs.Permuted.{IsFreshIn, fresh_rows, not_taken}
use Rattle.permit_sql_statements.proofs.WriteLemmas.{task_on, on_office, inserted, updated}

-- ---- the office's integers and texts are stored as they are

either : (b : Bool) (x : Value) → cond b x x ≡ x
either true x = refl
either false x = refl

pub cast_int : (n : ℕ) → cast Integer (int n) ≡ int n
unfolding unary
cast_int n = either _ (int n)

pub cast_null : cast Integer Null ≡ Null
unfolding unary
cast_null = either _ Null

cast_less : cast Integer (Int (negsuc 0)) ≡ Int (negsuc 0)
unfolding unary
cast_less = either _ (Int (negsuc 0))

pub cast_or_zero : (o : Option ℕ) → cast Integer (or_zero o) ≡ or_zero o
cast_or_zero None = cast_int 0
cast_or_zero (Some n) = cast_int n

pub cast_or_minus_one : (o : Option ℕ) → cast Integer (or_minus_one o) ≡ or_minus_one o
cast_or_minus_one None = cast_less
cast_or_minus_one (Some n) = cast_int n

pub cast_step : (o : Option Step) → cast Integer (step_value o) ≡ step_value o
cast_step o = cast_or_minus_one _

pub cast_flag : (b : Bool) → cast Integer (flag b) ≡ flag b
cast_flag true = cast_int 1
cast_flag false = cast_int 0

-- ---- one table is changed

-- the schema in its order, and each table but this one as it was
pub record Leaves (o : Order) (old new : Database) (table : Table) : Type 0 where
  pub schema : new.schema ≡ schema_in o
  pub others : AllByRecursion (λ (t : Table). t.tree ≢ table.tree → new.trees t.tree ≡ old.trees t.tree) (schema_in o).tables

-- a row whose rowid was free is put among the others
pub record Adds (o : Order) (old new : Database) (table : Table) (made : Row) : Type 0 where
  pub leaves : Leaves o old new table
  pub fresh : IsFreshIn made (old.trees table.tree)
  pub row : new.trees table.tree ≡ put_row made (old.trees table.tree)

-- a row is put in place of those with a rowid
pub record Puts (o : Order) (old new : Database) (table : Table) (id : ℤ) (made : Row) : Type 0 where
  pub leaves : Leaves o old new table
  pub keyed : have_rowids (made ∷ []) ≡ true
  pub fresh : IsFreshIn made (without_rowid id (old.trees table.tree))
  pub row : new.trees table.tree ≡ put_row made (without_rowid id (old.trees table.tree))
  pub fits : Fits (schema_in o) new.trees

module _ (o : Order) (text : List ℕ) (at : ℕ) (table : Table) (uncounted : table.is_counted ≡ false) (terms : List Term) (width : ℕ)
    (is : command_of (understood (schema_in o) text) ≡ Insert at (Values terms width)) (plain : IsPlain (understood (schema_in o) text))
    (params : Row) (old new : State) (count : ℕ) (schema : old.now.schema ≡ schema_in o) (made : Row) where
  pub adds : ((tally : Tally) → Does old.step_limit (mode_of old) params (on_office o old.now.trees) (statement_of text (understood (schema_in o) text)) None
      (Insert at (Values terms width)) (Ok (tally, new.now))
      → OnRows (task_on o old.step_limit table params) (mode_of old) None (Insert at (Values terms width)) old.now.trees (Ok (tally, new.now)))
      → (edit_of old.now.trees table [] Chosen 0 (value_rows (stamped table params) width (length terms / width) terms)).news ≡ made ∷ []
      → Executes text params old new (Ok count) → Adds o old.now new.now table made
  adds on news h =
      let db = old.now.trees in
      let command = Insert at (Values terms width) in
      let w = runs_as text params old new (schema_in o) schema command is plain count h in
      let sql = statement_of text (understood (schema_in o) text) in
      let does = subst (λ s. Does old.step_limit (mode_of old) params (record old.now { schema = s }) sql None command
      (Ok (w.tally, new.now))) schema w.changed in
      let it = inserted o old.step_limit (mode_of old) table uncounted params db w.tally new.now at (Values terms width) (on w.tally does) in
      let one : (edit_of db table [] Chosen 0 it.0).news ≡ made ∷ [] = ap (λ all. (edit_of db table [] Chosen 0 all).news) it.1.1 ∙ news in
      let row : new.now.trees table.tree ≡ put_row made (db table.tree) = it.2.rows ∙ ap (put_all (db table.tree)) one in
      let free = fresh_rows made (db table.tree) (not_taken _ (subst (λ ns. are_fresh (db table.tree) ns ≡ true) one it.2.fresh)) in
      record { leaves = record { schema = it.3; others = it.2.tables }; fresh = free; row = row }

module _ (o : Order) (text : List ℕ) (at : ℕ) (table : Table) (query : Query)
    (is : command_of (understood (schema_in o) text) ≡ Update at (alone query)) (plain : IsPlain (understood (schema_in o) text))
    (params : Row) (old new : State) (count : ℕ) (schema : old.now.schema ≡ schema_in o) (uncounted : table.is_counted ≡ false) where
  abbrev On : Type 0
  On = (tally : Tally) → Does old.step_limit (mode_of old) params (on_office o old.now.trees) (statement_of text (understood (schema_in o) text)) None
      (Update at (alone query)) (Ok (tally, new.now))
      → OnRows (task_on o old.step_limit table params) (mode_of old) None (Update at (alone query)) old.now.trees (Ok (tally, new.now))

  -- the rows that the text found, and what follows where there are none, or one
  pub record Sets : Type 0 where
    pub found : List Row
    pub answer : Answers (on_office o old.now.trees) (alone query) params found
    pub none : found ≡ [] → Leaves o old.now new.now table × (new.now.trees table.tree ≡ old.now.trees table.tree)
    pub put : (r made : Row) → found ≡ r ∷ [] → cast_row table (drop 1 r) ≡ made → Puts o old.now new.now table (id_in (rowid r)) made
    pub one : (id : ℤ) (made : Row) → cast_row table made ≡ made → found ≡ (Int id ∷ made) ∷ [] → Leaves o old.now new.now table
        × (new.now.trees table.tree ≡ put_row made (without_rowid id (old.now.trees table.tree)))

  pub sets : On → Executes text params old new (Ok count) → Sets
  sets on h =
      let db = old.now.trees in
      let command = Update at (alone query) in
      let w = runs_as text params old new (schema_in o) schema command is plain count h in
      let sql = statement_of text (understood (schema_in o) text) in
      let does = subst (λ s. Does old.step_limit (mode_of old) params (record old.now { schema = s }) sql None command
      (Ok (w.tally, new.now))) schema w.changed in
      let it = updated o old.step_limit (mode_of old) table uncounted params db w.tally new.now at (alone query) (on w.tally does) in
      record {
        found = it.0;
        answer = it.1;
        none = λ e. let step = it.3.0 e in (record { schema = it.2; others = step.tables }, step.rows);
        put = λ r made e stays.
            let first : (edit_of db table (ids_of it.0) Given 1 it.0).news ≡ made ∷ [] = ap (λ rows. (edit_of db table (ids_of rows) Given 1 rows).news) e
            ∙ ap (λ x. x ∷ []) stays in
            let step = subst (λ rows. Applies (schema_in o) Enforced db (edit_of db table (ids_of rows) Given 1 rows) new.now.trees) e (it.3.1 made first) in
            let left = without_rowid (id_in (rowid r)) (db table.tree) in
            let news : (edit_of db table (ids_of (r ∷ [])) Given 1 (r ∷ [])).news ≡ made ∷ [] = ap (λ x. x ∷ []) stays in
            record {
              leaves = record { schema = it.2; others = step.tables };
              keyed = subst (λ ns. have_rowids ns ≡ true) news step.keyed;
              fresh = fresh_rows made left (not_taken _ (subst (λ ns. are_fresh left ns ≡ true) news step.fresh));
              row = step.rows ∙ ap (λ x. put_row x left) stays;
              fits = step.fits;
            };
        one = λ id made stays e.
            let news : (edit_of db table (ids_of it.0) Given 1 it.0).news ≡ made ∷ [] = ap (λ rows. (edit_of db table (ids_of rows) Given 1 rows).news) e
            ∙ ap (λ r. r ∷ []) stays in
            let step = it.3.1 made news in (
              record { schema = it.2; others = step.tables },
              step.rows ∙ ap (λ rows. edited db (edit_of db table (ids_of rows) Given 1 rows)) e
                  ∙ ap (λ r. put_row r (without_rowid id (db table.tree))) stays,
            );
      }
