-- What an INSERT of values and an UPDATE make of the tables of the office.
use Rattle.std.proofs.Common.{◌≡◌, ◌⊎◌, inl, inr, ℕ, false, cond, List, [], ◌∷◌, Option, None, Ok, Err, Result, MatchBool, int_cmp, is_lt, refl, sym, ap, subst}
use Rattle.std.proofs.Common.{◌∙◌}
use Rattle.sqlite_value.specs.Order.{Row}
use Rattle.sqlite_trees.specs.Tree.{Trees}
use Rattle.sqlite_schema.specs.declared.schema.Table.{Table}
use Rattle.sqlite_schema.specs.declared.schema.Keys.TheVariants.{Enforced}
use Rattle.sqlite_schema.specs.declared.program.Program.{Program}
use Rattle.sqlite_schema.specs.declared.command.Command.TheVariants.{Insert, Update}
use Rattle.sqlite_schema.specs.declared.command.Source.{Source}
use Rattle.sqlite_rules.specs.declared.error.Rowids.TheVariants.{Chosen, Given, Above}
use Rattle.sqlite_rules.specs.Edit.{edit_of, taken_by, Applies}
use Rattle.sqlite_rules.specs.Action.{works}
use Rattle.sqlite_rules.specs.Calls.{ids_of}
use Rattle.sqlite_rules.proofs.ActionLemmas.{no_works}
use Rattle.sqlite.specs.Effect.{Database, IsSource, Answers}
use Rattle.sqlite.specs.Rows.{Task, Written, Outcome, Edited, CountsIn, sequence, rowids_for, count_of, higher, stamped}
use Rattle.sqlite.specs.Does.{Tally, OnRows}
use Rattle.sqlite.specs.declared.run.Mode.{Mode}
use Rattle.sqlite.proofs.Callers.{one_step}
use Rattle.permit_sql_rows.specs.Schema.{Order, schema_in}

-- a part that gave a value did not stop on the way
pub went : {B E R : Type 0} {b : B} {Stops : E → Type 0} → ((stop : E) × Stops stop × (Ok b ≡ Err stop)) ⊎ R → R
went (inl stopped) = absurd (let e = stopped.2 in cc)
went (inr on) = on

pub same_value : {B E : Type 0} {a b : B} → ◌≡◌ {A = Result B E} (Ok a) (Ok b) → a ≡ b
same_value e = cc

abbrev Same : Trees → Trees → Type 0
Same a b = ◌≡◌ {A = Outcome Trees} (Ok a) (Ok b)

-- the task of a statement on a table of the office
abbrev pub task_on : Order → Option ℕ → Table → Row → Task
task_on o limit table params = record { limit = limit; keys = Enforced; schema = schema_in o; table = table; params = params }

abbrev pub on_office : Order → Trees → Database
on_office o db = record { schema = schema_in o; trees = db }

-- NO ACTION sets off nothing
no_actions : (o : Order) (tree : ℕ) (olds : List Row) (new : Row) → works (schema_in o) Enforced 0 tree olds (new ∷ []) ≡ []
no_actions o tree olds new = refl

-- nor does an edit that has no row
none_set : (o : Order) (tree : ℕ) → works (schema_in o) Enforced 0 tree [] [] ≡ []
none_set o tree = refl

module _ (o : Order) (limit : Option ℕ) (mode : Mode) (table : Table) (uncounted : table.is_counted ≡ false) (params : Row) (db : Trees) (tally : Tally)
    (after : Database) where
  pub inserted : (at : ℕ) (from : Source) → OnRows (task_on o limit table params) mode None (Insert at from) db (Ok (tally, after))
      → (rows : List Row) × IsSource (on_office o db) (stamped table params) from rows
      × Applies (schema_in o) Enforced db (edit_of db table [] Chosen 0 rows) after.trees × (after.schema ≡ schema_in o)
  inserted at from h =
      let done = went h in
      let now = ap (λ (p : Tally × Database). p.1) (same_value (went (went done.2).2).2) in
      let given = went done.1 in
      let numbers = went given.2 in
      let written = went numbers.2 in
      let counted = went written.2 in
      let task = task_on o limit table params in
      let chosen : rowids_for table (count_of numbers.0) ≡ Chosen = ap (λ b. cond b (Above (count_of numbers.0)) Chosen) uncounted in
      let wrote = subst (λ r. Edited (schema_in o) Enforced db (edit_of db table [] r 0 given.0) (Ok written.0)) chosen written.1 in
      let top = Rattle.std.specs.Prelude.fold higher (count_of numbers.0) (edit_of db table [] (rowids_for table (count_of numbers.0)) 0 given.0).news in
      let still : Same counted.0 written.0 = subst (λ b. MatchBool (cond b (is_lt (int_cmp (count_of numbers.0) top)) false)
      (CountsIn task written.0 numbers.0 top (sequence (schema_in o)) (Ok counted.0)) (Same counted.0 written.0)) uncounted counted.1 in
      let trees : after.trees ≡ written.0 = ap (λ (d : Database). d.trees) now ∙ ap (λ (it : Written). it.trees) (same_value counted.2) ∙ same_value still in
      let step = one_step (schema_in o) Enforced db written.0 (edit_of db table [] Chosen 0 given.0)
      (no_works (schema_in o) Enforced 0 table.tree (edit_of db table [] Chosen 0 given.0).news) wrote in
      (given.0, given.1, subst (Applies (schema_in o) Enforced db (edit_of db table [] Chosen 0 given.0)) (sym trees) step, ap (λ (d : Database). d.schema) now)

  pub updated : (at : ℕ) (q : Program) → OnRows (task_on o limit table params) mode None (Update at q) db (Ok (tally, after))
      → (rows : List Row) × Answers (on_office o db) q params rows × (after.schema ≡ schema_in o)
      × ((rows ≡ [] → Applies (schema_in o) Enforced db (edit_of db table [] Given 1 []) after.trees)
      × ((new : Row) → (edit_of db table (ids_of rows) Given 1 rows).news ≡ new ∷ [] →
      Applies (schema_in o) Enforced db (edit_of db table (ids_of rows) Given 1 rows) after.trees))
  updated at q h =
      let done = went h in
      let now = ap (λ (p : Tally × Database). p.1) (same_value (went (went done.2).2).2) in
      let given = went done.1 in
      let written = went given.2 in
      let trees : after.trees ≡ written.0 = ap (λ (d : Database). d.trees) now ∙ ap (λ (it : Written). it.trees) (same_value written.2) in
      let edit = edit_of db table (ids_of given.0) Given 1 given.0 in (
        given.0,
        given.1,
        ap (λ (d : Database). d.schema) now,
        (
          λ none. subst (Applies (schema_in o) Enforced db (edit_of db table [] Given 1 [])) (sym trees)
              (one_step (schema_in o) Enforced db written.0 (edit_of db table [] Given 1 []) (none_set o table.tree)
              (subst (λ rows. Edited (schema_in o) Enforced db (edit_of db table (ids_of rows) Given 1 rows) (Ok written.0)) none written.1)),
          λ new is. subst (Applies (schema_in o) Enforced db edit) (sym trees)
              (one_step (schema_in o) Enforced db written.0 edit (subst (λ ns. works (schema_in o) Enforced 0 table.tree (taken_by db edit) ns ≡ []) (sym is)
              (no_actions o table.tree (taken_by db edit) new)) written.1),
        ),
      )
