-- The table of the upgrade: what a query of it shows, and the row that it then has.
use Rattle.std.proofs.Common.{◌≡◌, ◌≤◌, ◌+◌, suc, length, Option, Some, None, IfSome, refl, sym, ap, subst, ◌∙◌, List, [], ◌∷◌, map, codes, false, arith, IsPermutation, ℕ, slice_get, pos}
use Rattle.std.proofs.lemmas.List.Sorted.{IsPermutation-sym}
use Rattle.std.specs.Prelude.{Bool, true, ◌-◌, ◌^◌, nat_le, if◌then◌else◌, unwrap_or}
use Rattle.std.specs.List.{AllByRecursion}
use Rattle.sqlite_schema.specs.declared.schema.Schema.{Schema}
use Rattle.sqlite_schema.specs.declared.schema.Constraint.TheVariants.{Datatype, NotNull}
use Rattle.sqlite_schema.specs.Rules.{Keeps as KeepsRule}
use Rattle.sqlite.specs.declared.types.Value.TheVariants.{Null}
use Rattle.sqlite_value.specs.Order.{Row}
use Rattle.sqlite_sql.specs.Program.{overlay}
use Rattle.sqlite_trees.specs.Tree.{Trees}
use Rattle.sqlite.specs.Effect.{Database, IsDatabase}
use Rattle.sqlite.specs.State.{State, Shown}
use Rattle.sqlite.proofs.Callers.{reads_as, one_permutation}
use Rattle.permit_base.specs.declared.words.Edition.{Edition}
use Rattle.permit_base.specs.declared.words.Edition.TheVariants.{First, Second}
use Rattle.permit_model.specs.History.{History}
use Rattle.permit_model.specs.Machine.{IsHistory}
use Rattle.permit_model.specs.Files.{CaseFile, case_files}
use Rattle.permit_model.specs.Numbering.{IsNumberedFrom}
use Rattle.permit_model.specs.Tables.{Tables, FileRow, file_row, tables, edition_by, version_of, with_upgrade}
use Rattle.permit_model.proofs.Numbers.{case_files_numbered}
use Rattle.permit_sql_rows.specs.Kept.{KeepsUnder}
use Rattle.permit_sql_rows.specs.Schema.{schema_in, upgrade_table, upgrade_tree, IsOffice, key_column, int_column}
use Rattle.permit_sql_rows.specs.Rows.{int, desk_row, shown_upgrade, upgrade_row}
use Rattle.permit_sql_rows.specs.Typed.{firsts}
use Rattle.permit_sql_statements.specs.declared.texts.TheConstants.{READ_UPGRADE}
use Rattle.permit_sql_statements.specs.Founding.{AreCounted}
use Rattle.permit_sql.specs.Found.{IsNumbered, AreTyped}
use Rattle.permit_sql.specs.Opening.{seen_upgrade, HasOtherVersion}
use Rattle.permit_sql.proofs.UpgradeMeaning.{read_upgrade_query, read_upgrade_text}
use Rattle.permit_sql.proofs.Shaped.{keyed_rows, IsKeyedRow}
use Rattle.permit_sql.proofs.Checks.{with_null}
use Rattle.permit_sql.proofs.Version.{only_one}
use Rattle.permit_sql_statements.proofs.Wholes.{whole_shown}

-- where no table is computed before a query, it reads the stored ones
all_stored : (db : Trees) (tree : ℕ) → overlay db [] tree ≡ db tree
all_stored db tree = go (nat_le (2 ^ 31) tree)
  where
    go : (b : Bool) → unwrap_or (if b then slice_get [] (tree - 2 ^ 31) else None) (db tree) ≡ db tree
    go true = refl
    go false = refl

-- the rows of the tree, as the query shows them
pub upgrade_rows_seen : (old new : State) (rows : List Row) → IsOffice Second old.now.schema → Shown READ_UPGRADE.now [] old new rows →
    IsPermutation (map seen_upgrade (old.now.trees (upgrade_tree old.now.schema))) rows
upgrade_rows_seen old new rows office h =
    let tree = upgrade_tree old.now.schema in
    let q = read_upgrade_query tree in
    let text = read_upgrade_text old.now.schema office in
    let read = reads_as READ_UPGRADE.now [] old new old.now.schema refl _ text.is text.plain text.unlisted rows h in
    let seen = whole_shown tree q.project q.order (overlay old.now.trees []) rows (read.answer Null) in
    subst (λ l. IsPermutation (map seen_upgrade l) rows) (all_stored old.now.trees tree) seen

-- the rows of the tree are those of its table
upgrade_rows : (db : Database) → IsOffice Second db.schema → IsDatabase db → AllByRecursion (IsKeyedRow 1) (db.trees (upgrade_tree db.schema))
upgrade_rows db office sound =
    let o = office.order in
    let typed : KeepsRule Datatype (schema_in o) db.trees = subst (λ s. KeepsRule Datatype s db.trees) office.is (sound.obeys.rules Datatype) in
    let there : KeepsRule NotNull (schema_in o) db.trees = subst (λ s. KeepsRule NotNull s db.trees) office.is (sound.obeys.rules NotNull) in
    subst (λ tree. AllByRecursion (IsKeyedRow 1) (db.trees tree)) (sym (ap upgrade_tree office.is))
    (keyed_rows (schema_in o) db.trees (upgrade_table o.tree) key_column (int_column (codes "files") ∷ []) refl refl (refl, tt) (omega arith)
    (db.trees o.tree) typed.1.1.1.1.1.1.0 there.1.1.1.1.1.1.0)

-- one row that shows a count is the tree's
pub upgrade_found : (db : Database) (rows : List Row) (q : Row) (n : ℕ) → IsOffice Second db.schema → IsDatabase db →
    IsPermutation (map seen_upgrade (db.trees (upgrade_tree db.schema))) rows → rows ≡ q ∷ [] → firsts 2 0 q ≡ shown_upgrade n →
    db.trees (upgrade_tree db.schema) ≡ upgrade_row n ∷ []
upgrade_found db rows q n office sound same alone shown =
    let tree = db.trees (upgrade_tree db.schema) in
    let it = only_one seen_upgrade tree q
    (one_permutation q _ (IsPermutation-sym _ _ (subst (IsPermutation (map seen_upgrade tree)) alone same))) in
    let row = (subst (AllByRecursion (IsKeyedRow 1)) it.1 (upgrade_rows db office sound)).0 in
    let says : seen_upgrade it.0 ≡ shown_upgrade n = subst (λ r. firsts 2 0 r ≡ shown_upgrade n) (sym it.2) shown in
    let is_row : it.0 ≡ upgrade_row n = sym row ∙ ap with_null says in
    it.1 ∙ ap (λ r. r ∷ []) is_row

-- the row of tables that the database keeps is the answer
pub kept_upgrade : (tree rows : List Row) (n : ℕ) → tree ≡ upgrade_row n ∷ [] → IsPermutation (map seen_upgrade tree) rows → rows ≡ shown_upgrade n ∷ []
kept_upgrade tree rows n here same = one_permutation (shown_upgrade n) rows (subst (λ l. IsPermutation (map seen_upgrade l) rows) here same)

-- what tables under the second edition have there
pub record HasCount (t : Tables) (db : Database) : Type 0 where
  pub files : ℕ
  pub upgrade : t.upgrade ≡ Some files
  pub within : files ≤ t.desk.files
  pub here : db.trees (upgrade_tree db.schema) ≡ upgrade_row files ∷ []

pub under_second : (edition : Edition) (t : Tables) (db : Database) → edition ≡ Second → KeepsUnder edition t db → HasCount t db
under_second edition t db second k = go t.upgrade refl k.keyed.upgraded k.rows.upgrade
  where
    go : (o : Option ℕ) → t.upgrade ≡ o → IfSome o (λ files. files ≤ t.desk.files) →
        IfSome o (λ files. db.trees (upgrade_tree db.schema) ≡ upgrade_row files ∷ []) → HasCount t db
    go None is within here = absurd (let e = sym (k.now ∙ second) ∙ k.keyed.edition ∙ ap edition_by is in cc)
    go (Some files) is within here = record { files = files; upgrade = is; within = within; here = here }

-- and those under the first
pub under_first : (edition : Edition) (t : Tables) (db : Database) → edition ≡ First → KeepsUnder edition t db → t.upgrade ≡ None
under_first edition t db first k = go t.upgrade refl
  where
    go : (o : Option ℕ) → t.upgrade ≡ o → t.upgrade ≡ None
    go None is = is
    go (Some files) is = absurd (let e = sym (k.now ∙ first) ∙ k.keyed.edition ∙ ap edition_by is in cc)

-- tables under the second edition are of another version than the first
pub second_is_other : (t : Tables) (db : Database) → KeepsUnder Second t db → HasOtherVersion First db
second_is_other t db k = record {
  desk = ap (λ (s : Schema). slice_get s.tables 0) k.schema.is;
  row = desk_row t.desk;
  only = k.rows.desk;
  other = (pos 2, ap (λ e. int (version_of e)) k.now, λ e. absurd (let same = e in cc));
}

-- ---- the tables after the upgrade

counted_from : (n : ℕ) (fs : List FileRow) → IsNumbered (λ (f : FileRow). f.id) n fs → (most : ℕ) → n + length fs ≤ most + 1 →
    AllByRecursion (λ (f : FileRow). f.id ≤ most) fs
counted_from n [] up most low = tt
counted_from n (f ∷ fs) up most low =
    let e : f.id ≡ n = up.0 in
    (omega (arith, e, low), counted_from (suc n) fs up.1 most (omega (arith, low)))

-- typed tables have no file whose number is above their count
pub are_counted : (t : Tables) → AreTyped t → AreCounted t
are_counted t typed = let count = typed.file_count in counted_from 1 t.files typed.file_numbers t.desk.files (omega (arith, count))

case_files_counted : (first : ℕ) (files : List CaseFile) → IsNumberedFrom (λ (f : CaseFile). f.filing.id) first files → (count : ℕ) →
    first + length files ≤ suc count → AllByRecursion (λ (f : FileRow). f.id ≤ count) (map file_row files)
case_files_counted first [] numbered count low = tt
case_files_counted first (f ∷ files) numbered count low =
    let here = numbered.0 in
    (omega (arith, here, low), case_files_counted (first + 1) files numbered.1 count (omega (arith, low)))

-- nor have those of a history
pub history_counted : (h : History) → IsHistory h → AreCounted (tables h)
history_counted h is = case_files_counted 1 (case_files h) (case_files_numbered h is) (length (case_files h)) (omega arith)

-- and are typed after the upgrade
pub typed_after : (t : Tables) → AreTyped t → AreTyped (with_upgrade t)
typed_after t typed = record {
  desk = record { last = typed.desk.last; parties = typed.desk.parties; parcels = typed.desk.parcels; files = typed.desk.files };
  parties = typed.parties;
  parcels = typed.parcels;
  interests = typed.interests;
  files = typed.files;
  papers = typed.papers;
  party_numbers = typed.party_numbers;
  parcel_numbers = typed.parcel_numbers;
  file_numbers = typed.file_numbers;
  party_count = typed.party_count;
  parcel_count = typed.parcel_count;
  file_count = typed.file_count;
}
