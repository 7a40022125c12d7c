-- What an open finds in the trees of the tables.
use Rattle.std.specs.Prelude.{◌≡◌, ◌⊎◌, ⊤, ℕ, ℤ, suc, ◌-◌, ◌<◌, ◌≤◌, ◌<ℤ◌, ◌≤ℤ◌, ◌≢◌, IsTrue, Option, Some, IfSome, List, [], ◌∷◌, Bool, map, filter, drop}
use Rattle.std.specs.Prelude.{length, slice_get, bytes_eq, unwrap_or, ◌++◌, IsPermutation}
use Rattle.std.specs.List.{AllByRecursion}
use Rattle.sqlite.specs.declared.types.Value.TheVariants.{Int}
use Rattle.sqlite_value.specs.Order.{Row, column}
use Rattle.sqlite_trees.specs.Tree.{Trees, has_rowid}
use Rattle.sqlite_trees.specs.declared.store.Store.{Ghosts}
use Rattle.sqlite.specs.Effect.{Database, IsDatabase}
use Rattle.sqlite.specs.State.{Shown}
use Rattle.sqlite.specs.Held.{Held, state}
use Rattle.permit_model.specs.Parcels.{Interest}
use Rattle.permit_base.specs.declared.words.Edition.{Edition}
use Rattle.permit_base.specs.declared.words.Edition.TheVariants.{Second}
use Rattle.permit_model.specs.Tables.{Tables, Desk, FileRow, Paper, edition_by}
use Rattle.permit_model.specs.Sound.{IsSoundTables}
use Rattle.permit_sql_rows.specs.Rows.{desk_row, upgrade_row, party_row, parcel_row, file_row, shown_file, shown_interest, shown_paper}
use Rattle.permit_sql_rows.specs.Schema.{upgrade_tree}
use Rattle.permit_sql_rows.specs.Kept.{IsNamed, KeepsUnder}
use Rattle.permit_sql.specs.Taken.{TookAll}
use Rattle.permit_sql_rows.specs.Typed.{firsts, IsDesk, IsParty, IsParcel, IsInterest, IsFile, IsPaper}

-- a taker took the whole answer to a query of a sound database, which is as it was
abbrev pub TookTable : {T : Type 0} → (T → Row → T → Bool → Type 0) → {S : Type 0} → Ghosts S → List ℕ → Held S → Held S → T → T → Type 0
TookTable took {S} g sql old new a b =
    (rows : List Row) × (was : Held S) × ((state g was).now ≡ (state g old).now) × IsDatabase (state g old).now × Shown sql [] (state g was) (state g new) rows
    × TookAll took rows a b

-- they are numbered from this number on
abbrev pub IsNumbered : {X : Type 0} → (X → ℕ) → ℕ → List X → Type 0
IsNumbered number n [] = ⊤
IsNumbered number n (x ∷ xs) = (number x ≡ n) × IsNumbered number (suc n) xs

-- ---- what a row is taken as, with the count of rows before it and after it

-- an object of a kind, of which four values are shown, with the next number
abbrev pub TakesNumbered : {X : Type 0} → (X → Row) → (X → Type 0) → (X → ℕ) → ℕ → Row → ℕ → Type 0
TakesNumbered {X} shown IsGood number before row after =
    (x : X) × IsGood x × (firsts 4 0 row ≡ shown x) × (number x ≡ suc before) × (after ≡ suc before)

-- a file within its limits, whose edition is that of its number where there were so many files at the upgrade
abbrev pub IsGoodFile : Option ℕ → FileRow → Type 0
IsGoodFile upgrade f = IsFile f × IsNamed upgrade f.id f.state

-- a file, with the counts of papers so far
abbrev pub TakesFile : Option ℕ → List ℕ → Row → List ℕ → Type 0
TakesFile upgrade before row after = (f : FileRow) × IsGoodFile upgrade f × (firsts 20 0 row ≡ shown_file f) × (f.id ≡ suc (length before))
    × (after ≡ before ++ f.state.papers ∷ [])

abbrev pub TakesInterest : Row → Type 0
TakesInterest row = (i : Interest) × IsInterest i × (firsts 2 0 row ≡ shown_interest i)

-- the same file and a higher number, or a later file
abbrev pub IsLater : ℕ → ℕ → ℕ → ℕ → Type 0
IsLater file number next_file next_number = ((next_file ≡ file) × (number < next_number)) ⊎ (file < next_file)

-- how many papers the file with this number has
abbrev pub counted_in : List ℕ → ℕ → ℕ
counted_in counts file = unwrap_or (slice_get counts (file - 1)) 0

abbrev pub TakesPaper : List ℕ → ℕ → ℕ → Row → ℕ → ℕ → Type 0
TakesPaper counts file number row next_file next_number =
    (p : Paper) × IsPaper p × (firsts 9 0 row ≡ shown_paper p) × (p.file ≡ next_file) × (p.number ≡ next_number) × IsLater file number next_file next_number
    × (next_number ≤ counted_in counts next_file)

-- ---- what no refused row is: that of a typed value with the next number, but where memory was refused

abbrev pub RefusesNumbered : {X : Type 0} → (X → Row) → (X → Type 0) → (X → ℕ) → ℕ → Row → Bool → Type 0
RefusesNumbered {X} shown IsGood number before row lacks_memory = (x : X) → IsGood x → row ≡ shown x → number x ≡ suc before → IsTrue lacks_memory

abbrev pub RefusesFile : Option ℕ → List ℕ → Row → Bool → Type 0
RefusesFile upgrade before row lacks_memory = (f : FileRow) → IsGoodFile upgrade f → row ≡ shown_file f → f.id ≡ suc (length before) → IsTrue lacks_memory

abbrev pub RefusesInterest : Row → Type 0
RefusesInterest row = (i : Interest) → IsInterest i → row ≢ shown_interest i

abbrev pub RefusesPaper : List ℕ → ℕ → ℕ → Row → Bool → Type 0
RefusesPaper counts file number row lacks_memory =
    (p : Paper) → IsPaper p → row ≡ shown_paper p → IsLater file number p.file p.number → p.number ≤ counted_in counts p.file → IsTrue lacks_memory

-- ---- what a tree holds

-- so many objects, no two of which have the same text
pub record HasNumbered {X : Type 0} (IsGood : X → Type 0) (number : X → ℕ) (row : X → Row) (text : X → List ℕ) (count : ℕ) (tree : List Row) : Type 0 where
  pub all : List X
  pub good : AllByRecursion IsGood all
  pub numbered : IsNumbered number 1 all
  pub counted : length all ≡ count
  pub here : IsPermutation (map row all) tree
  pub once : (words : List ℕ) → length (filter (λ x. bytes_eq (text x) words) all) ≤ 1

abbrev pub HasParties : ℕ → List Row → Type 0
HasParties = HasNumbered IsParty (λ p. p.id) party_row (λ p. p.digest)

abbrev pub HasParcels : ℕ → List Row → Type 0
HasParcels = HasNumbered IsParcel (λ p. p.id) parcel_row (λ p. p.lot)

pub record HasFiles (upgrade : Option ℕ) (counts : List ℕ) (tree : List Row) : Type 0 where
  pub all : List FileRow
  pub good : AllByRecursion (IsGoodFile upgrade) all
  pub numbered : IsNumbered (λ f. f.id) 1 all
  pub counted : map (λ f. f.state.papers) all ≡ counts
  pub here : IsPermutation (map file_row all) tree

pub record HasInterests (tree : List Row) : Type 0 where
  pub all : List Interest
  pub good : AllByRecursion IsInterest all
  pub here : IsPermutation (map shown_interest all) (map (drop 1) tree)

-- in the order of their files and numbers
abbrev pub IsRising : ℕ → ℕ → List Paper → Type 0
IsRising file number [] = ⊤
IsRising file number (p ∷ ps) = IsLater file number p.file p.number × IsRising p.file p.number ps

pub record HasPapers (counts : List ℕ) (tree : List Row) : Type 0 where
  pub all : List Paper
  pub good : AllByRecursion IsPaper all
  pub rising : IsRising 0 0 all
  pub counted : AllByRecursion (λ p. p.number ≤ counted_in counts p.file) all
  pub here : IsPermutation (map shown_paper all) (map (drop 1) tree)

-- no rowid comes twice
abbrev pub IsApart : List Row → Type 0
IsApart tree = (id : ℤ) → length (filter (has_rowid id) tree) ≤ 1

-- a rowid above the last one, if there was one
abbrev pub TakesRowid : Option ℤ → Row → Option ℤ → Type 0
TakesRowid last row next = (id : ℤ) × (column row 0 ≡ Int id) × IfSome last (λ l. l <ℤ id) × (next ≡ Some id)

-- a rowid that is no number, or none above the last one
abbrev pub RefusesRowid : Option ℤ → Row → Bool → Type 0
RefusesRowid last row is_strange = IsTrue is_strange ⊎ ((id l : ℤ) × (column row 0 ≡ Int id) × (last ≡ Some l) × (id ≤ℤ l))

pub record HasDesk (d : Desk) (tree : List Row) : Type 0 where
  pub good : IsDesk d
  pub here : tree ≡ desk_row d ∷ []

-- no row under the first edition; one under the second, with the count of files then, which is at most that of today
pub record HasUpgrade (edition : Edition) (files : ℕ) (upgrade : Option ℕ) (db : Database) : Type 0 where
  pub told : edition ≡ edition_by upgrade
  pub within : IfSome upgrade (λ then_files. then_files ≤ files)
  pub here : IfSome upgrade (λ then_files. db.trees (upgrade_tree db.schema) ≡ upgrade_row then_files ∷ [])

-- the parties, parcels and interests, as the desk counts them
pub record HasObjects (d : Desk) (trees : Trees) : Type 0 where
  pub parties : HasParties d.parties (trees 1)
  pub parcels : HasParcels d.parcels (trees 3)
  pub interests : HasInterests (trees 5)

-- the files and papers, as the desk counts the files
pub record HasCases (d : Desk) (upgrade : Option ℕ) (trees : Trees) : Type 0 where
  pub counts : List ℕ
  pub files : HasFiles upgrade counts (trees 7)
  pub counted : length counts ≡ d.files
  pub papers : HasPapers counts (trees 8)
  pub apart : IsApart (trees 8)

-- Each row is within the limits of its type, the objects are numbered from 1, and the desk counts them.
pub record AreTyped (t : Tables) : Type 0 where
  pub desk : IsDesk t.desk
  pub parties : AllByRecursion IsParty t.parties
  pub parcels : AllByRecursion IsParcel t.parcels
  pub interests : AllByRecursion IsInterest t.interests
  pub files : AllByRecursion (λ f. IsFile f) t.files
  pub papers : AllByRecursion IsPaper t.papers
  pub party_numbers : IsNumbered (λ p. p.id) 1 t.parties
  pub parcel_numbers : IsNumbered (λ p. p.id) 1 t.parcels
  pub file_numbers : IsNumbered (λ f. f.id) 1 t.files
  pub party_count : length t.parties ≡ t.desk.parties
  pub parcel_count : length t.parcels ≡ t.desk.parcels
  pub file_count : length t.files ≡ t.desk.files

-- sound tables that the database keeps under the edition
abbrev pub KeepsSoundUnder : Edition → Database → Type 0
KeepsSoundUnder edition db = (t : Tables) × AreTyped t × IsSoundTables t × KeepsUnder edition t db

-- sound tables that the database keeps
abbrev pub KeepsSound : Database → Type 0
KeepsSound db = KeepsSoundUnder Second db

-- these are typed tables that the database keeps under the edition, with this desk, and so many files at the upgrade
abbrev pub HasTyped : Edition → Database → Desk → Option ℕ → Type 0
HasTyped edition db desk upgrade = (t : Tables) × AreTyped t × KeepsUnder edition t db × (t.desk ≡ desk) × (t.upgrade ≡ upgrade)

-- these are sound tables that the database keeps under the edition, with this desk, and so many files at the upgrade
abbrev pub HasSound : Edition → Database → Desk → Option ℕ → Type 0
HasSound edition db desk upgrade =
    (t : Tables) × AreTyped t × IsSoundTables t × KeepsUnder edition t db × (t.desk ≡ desk) × (t.upgrade ≡ upgrade)

-- sound tables that the database keeps, counted by this desk
abbrev pub CountsSound : Database → Desk → Type 0
CountsSound db desk = (t : Tables) × AreTyped t × IsSoundTables t × KeepsUnder Second t db × (t.desk ≡ desk)
