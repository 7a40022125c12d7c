-- The tables that a database keeps.
use Rattle.std.specs.Prelude.{◌≡◌, ◌≢◌, Some, ◌≤◌, ◌<◌, ℕ, ℤ, List, [], ◌∷◌, map, filter, find, drop, length, ◌==◌, bytes_eq, option_map, unwrap_or, IsTrue}
use Rattle.std.specs.Prelude.{Option, IfSome, IsPermutation}
use Rattle.std.specs.List.{AllByRecursion}
use Rattle.sqlite_trees.specs.Tree.{Trees, IsAscending, has_rowid}
use Rattle.sqlite_trees.specs.declared.store.Store.{Ghosts}
use Rattle.sqlite.specs.Effect.{Database}
use Rattle.sqlite.specs.State.{State, HasCleanDisk}
use Rattle.sqlite.specs.Held.{Held, state}
use Rattle.permit_base.specs.declared.words.Edition.{Edition}
use Rattle.permit_base.specs.declared.words.Edition.TheVariants.{Second}
use Rattle.permit_model.specs.Tables.{Tables, State as FileState, FileRow, edition_by, edition_numbered}
use Rattle.permit_sql_rows.specs.Schema.{IsOffice, upgrade_tree}
use Rattle.permit_sql_rows.specs.Rows.{desk_row, upgrade_row, party_row, parcel_row, file_row, shown_interest, shown_paper}

-- the count of papers in the file's row, or 0 where there is no such file
abbrev pub papers_counted : ℕ → List FileRow → ℕ
papers_counted file files = unwrap_or (option_map (λ f. f.state.papers) (find (λ f. f.id == file) files)) 0

-- Of none of these is a number 0, which means none; and the file's number gives its edition, which is stored nowhere.
pub record IsNamed (upgrade : Option ℕ) (id : ℕ) (s : FileState) : Type 0 where
  pub contractor : s.contractor ≢ Some 0
  pub reviewer : s.reviewer ≢ Some 0
  pub inspector : s.inspector ≢ Some 0
  pub ask : s.ask ≢ Some 0
  pub edition : s.edition ≡ edition_numbered upgrade id

-- There were no more files at the upgrade than there are. No number, digest and lot comes twice, and a file's papers are in rising number, none above the count in the file's row.
pub record AreKeyed (t : Tables) : Type 0 where
  pub upgraded : IfSome t.upgrade (λ files. files ≤ t.desk.files)
  pub edition : t.desk.edition ≡ edition_by t.upgrade
  pub parties : (id : ℕ) → length (filter (λ p. p.id == id) t.parties) ≤ 1
  pub digests : (digest : List ℕ) → length (filter (λ p. bytes_eq p.digest digest) t.parties) ≤ 1
  pub parcels : (id : ℕ) → length (filter (λ p. p.id == id) t.parcels) ≤ 1
  pub lots : (lot : List ℕ) → length (filter (λ p. bytes_eq p.lot lot) t.parcels) ≤ 1
  pub files : (id : ℕ) → length (filter (λ f. f.id == id) t.files) ≤ 1
  pub named : AllByRecursion (λ f. IsNamed t.upgrade f.id f.state) t.files
  pub papers : (file : ℕ) → IsAscending (λ a b. a.number < b.number) (filter (λ p. p.file == file) t.papers)
  pub counted : (file : ℕ) → AllByRecursion (λ p. p.number ≤ papers_counted file t.files) (filter (λ p. p.file == file) t.papers)

-- The trees of the tables have a row for each row of these, in any order; the upgrade's table is in this tree. The rowid of an interest and of a paper is of no account, but none comes twice.
pub record AreInTrees (t : Tables) (tree : ℕ) (db : Trees) : Type 0 where
  pub desk : db 0 ≡ desk_row t.desk ∷ []
  pub upgrade : IfSome t.upgrade (λ files. db tree ≡ upgrade_row files ∷ [])
  pub parties : IsPermutation (map party_row t.parties) (db 1)
  pub parcels : IsPermutation (map parcel_row t.parcels) (db 3)
  pub interests : IsPermutation (map shown_interest t.interests) (map (drop 1) (db 5))
  pub files : IsPermutation (map file_row t.files) (db 7)
  pub papers : IsPermutation (map shown_paper t.papers) (map (drop 1) (db 8))
  pub apart : (id : ℤ) → length (filter (has_rowid id) (db 8)) ≤ 1

-- the database has a schema of the edition, which is in force, and these tables
pub record KeepsUnder (edition : Edition) (t : Tables) (db : Database) : Type 0 where
  pub schema : IsOffice edition db.schema
  pub now : t.desk.edition ≡ edition
  pub keyed : AreKeyed t
  pub rows : AreInTrees t (upgrade_tree db.schema) db.trees

-- the database has a schema of the office and these tables
abbrev pub Keeps : Tables → Database → Type 0
Keeps t db = KeepsUnder Second t db

-- a connection that a failure shut shows nothing; an open one shows these tables
abbrev pub Shows : Tables → State → Type 0
Shows t s = IsTrue s.is_open → Keeps t s.now

-- The disk of each connection over this kind of store has given back what was written.
abbrev pub IsHonest : {S : Type 0} → Ghosts S → Type 0
IsHonest {S} g = (h : Held S) → HasCleanDisk (state g h)

-- a connection that is well: its disk has returned what was written, and no fault has shut it
abbrev pub IsFine : State → Type 0
IsFine s = HasCleanDisk s × IsTrue s.is_open
