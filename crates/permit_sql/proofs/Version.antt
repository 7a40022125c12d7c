-- The desk's row, read before the rest of the schema is known.
use Rattle.std.proofs.Common.{◌≡◌, refl, sym, ap, subst, ◌∙◌, ◌<◌, ◌≤◌, List, [], ◌∷◌, map, length, get_or, slice_get, Some, false, arith, IsPermutation}
use Rattle.std.proofs.lemmas.List.Sorted.{IsPermutation-sym}
use Rattle.sqlite_tied.specs.Compute.{everything}
use Rattle.sqlite.specs.Listing.{understood, reads_listing}
use Rattle.sqlite_schema.specs.declared.schema.Table.{Table}
use Rattle.sqlite_schema.specs.declared.schema.Index.{Index}
use Rattle.sqlite_schema.specs.declared.schema.View.{View}
use Rattle.sqlite_schema.specs.declared.schema.Schema.{Schema}
use Rattle.sqlite_schema.specs.declared.command.Command.TheVariants.{Select}
use Rattle.sqlite.specs.declared.types.Value.TheVariants.{Null}
use Rattle.sqlite_value.specs.Order.{Row, column}
use Rattle.sqlite_sql.specs.Program.{overlay}
use Rattle.sqlite.specs.Effect.{Database, IsDatabase}
use Rattle.sqlite.specs.State.{State, Shown}
use Rattle.sqlite.proofs.Callers.{command_of, IsPlain, reads_as, one_permutation}
use Rattle.std.specs.List.{AllByRecursion}
use Rattle.std.proofs.Common.{codes}
use Rattle.sqlite_schema.specs.declared.schema.Column.{Column}
use Rattle.sqlite_schema.specs.declared.schema.Constraint.TheVariants.{Datatype, NotNull}
use Rattle.permit_base.specs.declared.words.Edition.{Edition}
use Rattle.permit_model.specs.Tables.{Desk, Tables}
use Rattle.permit_sql_rows.specs.Schema.{desk_table, IsOffice, key_column, int_column}
use Rattle.permit_sql_rows.specs.Rows.{shown_desk, desk_row}
use Rattle.permit_sql_rows.specs.Typed.{firsts, IsDesk}
use Rattle.permit_sql_rows.specs.Kept.{KeepsUnder}
use Rattle.permit_sql.specs.Found.{HasDesk}
use Rattle.permit_sql.proofs.Offices.{laid, rule_of}
use Rattle.permit_sql.proofs.Shaped.{keyed_rows, IsKeyedRow}
use Rattle.permit_sql.proofs.Checks.{with_null}
use Rattle.permit_sql_statements.specs.declared.texts.TheConstants.{READ_DESK}
use Rattle.permit_sql.specs.Opening.{seen_desk, IsOther, HasOtherVersion}
use Rattle.permit_sql_statements.proofs.Wholes.{whole_shown}
use Rattle.permit_sql_statements.proofs.QueryTexts.{alone, read_desk_query, names_of}

module _ (more : List Table) (indexes : List Index) (views : List View) where
  abbrev pub begun : Schema
  begun = record { tables = desk_table ∷ more; indexes = indexes; views = views }

  pub begun_is : command_of (understood begun READ_DESK.now) ≡ Select (alone read_desk_query) (names_of (command_of (understood begun READ_DESK.now)))
  unfolding understood everything
  begun_is = refl

  pub begun_plain : IsPlain (understood begun READ_DESK.now)
  unfolding understood everything
  begun_plain = (refl, refl)

  pub begun_unlisted : reads_listing begun READ_DESK.now ≡ false
  unfolding understood everything
  begun_unlisted = refl

-- a schema whose first table is the desk's
pub begun_by : (s : Schema) → slice_get s.tables 0 ≡ Some desk_table → (more : List Table) × (s ≡ begun more s.indexes s.views)
begun_by s first = go s.tables first
  where
    go : (ts : List Table) → slice_get ts 0 ≡ Some desk_table → (more : List Table) × (record s { tables = ts } ≡ begun more s.indexes s.views)
    go [] h = absurd (let e = h in cc)
    go (t ∷ more) h = let e : t ≡ desk_table = cc in (more, ap (λ (x : Table). record s { tables = x ∷ more }) e)

pub first_plain : (s : Schema) → slice_get s.tables 0 ≡ Some desk_table → IsPlain (understood s READ_DESK.now)
first_plain s first =
    let it = begun_by s first in
    subst (λ x. IsPlain (understood x READ_DESK.now)) (sym it.1) (begun_plain it.0 s.indexes s.views)

pub desk_rows_seen : (old new : State) (rows : List Row) → slice_get old.now.schema.tables 0 ≡ Some desk_table → Shown READ_DESK.now [] old new rows →
    IsPermutation (map seen_desk (old.now.trees 0)) rows
desk_rows_seen old new rows first h =
    let it = begun_by old.now.schema first in
    let ix = old.now.schema.indexes in
    let vs = old.now.schema.views in
    let read = reads_as READ_DESK.now [] old new (begun it.0 ix vs) it.1 _ (begun_is it.0 ix vs) (begun_plain it.0 ix vs) (begun_unlisted it.0 ix vs) rows h in
    whole_shown 0 read_desk_query.project read_desk_query.order (overlay old.now.trees []) rows (read.answer Null)

-- where one row is shown, the tree has one
pub only_one : {A B : Type 0} (f : A → B) (xs : List A) (y : B) → map f xs ≡ y ∷ [] → (x : A) × (xs ≡ x ∷ []) × (f x ≡ y)
only_one f [] y h = absurd (let e = h in cc)
only_one f (x ∷ []) y h = (x, refl, cc)
only_one f (x ∷ z ∷ xs) y h = absurd (let e = ap length h in omega (arith, e))

pub first_alone : (rows : List Row) (q d : Row) → 1 ≤ length rows → length rows < 2 → q ≡ get_or rows 0 d → rows ≡ q ∷ []
first_alone [] q d low high is = absurd (omega (arith, low))
first_alone (r ∷ []) q d low high is = ap (λ x. x ∷ []) (sym is)
first_alone (r ∷ s ∷ rows) q d low high is = absurd (omega (arith, high))

pub other_version : (edition : Edition) (db : Database) (rows : List Row) (q d : Row) → slice_get db.schema.tables 0 ≡ Some desk_table →
    IsPermutation (map seen_desk (db.trees 0)) rows → 1 ≤ length rows → length rows < 2 → q ≡ get_or rows 0 d
    → IsOther edition (column q 1) → HasOtherVersion edition db
other_version edition db rows q d first same low high is other =
    let alone = first_alone rows q d low high is in
    let it = only_one seen_desk (db.trees 0) q (one_permutation q _ (IsPermutation-sym _ _ (subst (IsPermutation (map seen_desk (db.trees 0))) alone same))) in
    record { desk = first; row = it.0; only = it.1; other = subst (λ r. IsOther edition (column r 1)) (sym it.2) other }

-- the desk's row is then the answer
pub told_rows : (edition : Edition) (db : Database) (rows : List Row) (h : HasOtherVersion edition db) → IsPermutation (map seen_desk (db.trees 0)) rows → rows ≡ seen_desk h.row ∷ []
told_rows edition db rows h same = one_permutation (seen_desk h.row) rows (subst (λ l. IsPermutation (map seen_desk l) rows) h.only same)

pub told_other : (edition : Edition) (db : Database) (rows : List Row) (q d : Row) → HasOtherVersion edition db → IsPermutation (map seen_desk (db.trees 0)) rows → q ≡ get_or rows 0 d →
    IsOther edition (column q 1)
told_other edition db rows q d h same is = subst (λ r. IsOther edition (column r 1)) (sym (is ∙ ap (λ l. get_or l 0 d) (told_rows edition db rows h same))) h.other

-- ---- the desk of the office's schema

abbrev desk_columns : List Column
desk_columns = int_column (codes "version") ∷ int_column (codes "last") ∷ int_column (codes "parties") ∷ int_column (codes "parcels")
    ∷ int_column (codes "files") ∷ []

pub desk_found : (edition : Edition) (db : Database) (rows : List Row) (q e : Row) (d : Desk) → IsOffice edition db.schema → IsDatabase db →
    IsPermutation (map seen_desk (db.trees 0)) rows → 1 ≤ length rows → length rows < 2 → q ≡ get_or rows 0 e
    → firsts 6 0 q ≡ shown_desk d → IsDesk d → HasDesk d (db.trees 0)
desk_found edition db rows q e d office sound same low high is shown good =
    let alone = first_alone rows q e low high is in
    let it = only_one seen_desk (db.trees 0) q (one_permutation q _ (IsPermutation-sym _ _ (subst (IsPermutation (map seen_desk (db.trees 0))) alone same))) in
    let typed = rule_of edition db office sound Datatype in
    let there = rule_of edition db office sound NotNull in
    let whole = keyed_rows (laid edition db.schema office) db.trees desk_table key_column desk_columns refl refl (refl, (refl, (refl, (refl, (refl, tt))))) (omega arith)
    (db.trees 0) typed.0 there.0 in
    let row = (subst (AllByRecursion (IsKeyedRow 5)) it.1 whole).0 in
    let says : seen_desk it.0 ≡ shown_desk d = subst (λ r. firsts 6 0 r ≡ shown_desk d) (sym it.2) shown in
    let is_row : it.0 ≡ desk_row d = sym row ∙ ap with_null says in
    record { good = good; here = it.1 ∙ ap (λ r. r ∷ []) is_row }

pub only_found : (edition : Edition) (db : Database) (rows : List Row) (q : Row) (d : Desk) → IsOffice edition db.schema → IsDatabase db →
    IsPermutation (map seen_desk (db.trees 0)) rows → rows ≡ q ∷ [] → firsts 6 0 q ≡ shown_desk d → IsDesk d → HasDesk d (db.trees 0)
only_found edition db rows q d office sound same alone shown good =
    let one : length rows ≡ 1 = ap length alone in
    desk_found edition db rows q q d office sound same (omega (arith, one)) (omega (arith, one)) (ap (λ l. get_or l 0 q) (sym alone)) shown good

-- the desk of tables that the database keeps is the answer
pub kept_desk : (edition : Edition) (t : Tables) (db : Database) (rows : List Row) → KeepsUnder edition t db → IsPermutation (map seen_desk (db.trees 0)) rows → rows ≡ shown_desk t.desk ∷ []
kept_desk edition t db rows k same = one_permutation (shown_desk t.desk) rows (subst (λ l. IsPermutation (map seen_desk l) rows) k.rows.desk same)
