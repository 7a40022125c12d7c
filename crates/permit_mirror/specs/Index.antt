-- Which files concern whom.
use Rattle.std.specs.Prelude.{◌≡◌, ℕ, ◌+◌, ◌%◌, ◌^◌, IsTrue, Option, Some, length, ⊤}
use Rattle.std.specs.List.{AllByRecursion}
use Rattle.permit_model.specs.Numbering.{IsNumbered}
use Rattle.permit_model.specs.Routes.{owner_in, has_interest_in}
use Rattle.permit_model.specs.Tables.{State, FileRow, Tables}
use Rattle.permit_store.specs.declared.change.Change.{Change}
use Rattle.permit_store.specs.declared.change.Change.TheVariants.{NewParty, NewParcel, NewOwner, NewInterest, NewFile, NewRow}
use Rattle.permit_mirror.specs.declared.index.Index.{Index}
use Rattle.permit_mirror.specs.Pairs.{has, Grows}

-- Nothing goes, and the counts stay.
pub record Widens (old new : Index) : Type 0 where
  pub of : Grows old.files_of new.files_of
  pub on : Grows old.files_on new.files_on
  pub at : Grows old.people_at new.people_at
  pub parcels : new.parcels ≡ old.parcels
  pub files : new.files ≡ old.files

-- the file is one of the party's, where there is one
abbrev pub IsFileOf : Index → ℕ → Option ℕ → Type 0
IsFileOf index file party = (p : ℕ) → party ≡ Some p → IsTrue (has index.files_of p file)

-- The file is one of its applicant's, contractor's, reviewer's and inspector's.
pub record IsRelated (index : Index) (file : ℕ) (state : State) : Type 0 where
  pub applicant : IsFileOf index file (Some state.applicant)
  pub contractor : IsFileOf index file state.contractor
  pub reviewer : IsFileOf index file state.reviewer
  pub inspector : IsFileOf index file state.inspector

-- The file of the number and the state is on its parcel, and is one of its people's.
pub record IsThere (index : Index) (file : ℕ) (state : State) : Type 0 where
  pub placed : IsTrue (has index.files_on state.parcel file)
  pub related : IsRelated index file state

-- what a change will need is there
abbrev pub IsAhead : Index → Change → Type 0
IsAhead index (NewParty name role digest) = ⊤
IsAhead index (NewParcel lot address owner) = IsTrue (has index.people_at (index.parcels + 1) owner)
IsAhead index (NewOwner parcel owner) = IsTrue (has index.people_at parcel owner)
IsAhead index (NewInterest parcel party) = IsTrue (has index.people_at parcel party)
IsAhead index (NewFile state valuation description) = IsThere index (index.files + 1) state
IsAhead index (NewRow file state effect) = IsRelated index file state

-- a count of 32 bits, which wraps, after a change that adds one or none
abbrev pub parcels_after : Change → ℕ → ℕ
parcels_after (NewParty name role digest) n = n
parcels_after (NewParcel lot address owner) n = (n + 1) % 2 ^ 32
parcels_after (NewOwner parcel owner) n = n
parcels_after (NewInterest parcel party) n = n
parcels_after (NewFile state valuation description) n = n
parcels_after (NewRow file state effect) n = n

abbrev pub files_after : Change → ℕ → ℕ
files_after (NewParty name role digest) n = n
files_after (NewParcel lot address owner) n = n
files_after (NewOwner parcel owner) n = n
files_after (NewInterest parcel party) n = n
files_after (NewFile state valuation description) n = (n + 1) % 2 ^ 32
files_after (NewRow file state effect) n = n

-- The change is counted, and nothing else changes.
pub record Advances (change : Change) (old new : Index) : Type 0 where
  pub of : new.files_of ≡ old.files_of
  pub on : new.files_on ≡ old.files_on
  pub at : new.people_at ≡ old.people_at
  pub parcels : new.parcels ≡ parcels_after change old.parcels
  pub files : new.files ≡ files_after change old.files

-- It covers the tables: each file is there, and each owner of a parcel and each who declared an interest in it is at the
-- parcel. The counts are those of the tables, and the files are numbered.
pub record Covers (index : Index) (t : Tables) : Type 0 where
  pub parcels : t.desk.parcels ≡ index.parcels
  pub filed : t.desk.files ≡ index.files
  pub counted : length t.files ≡ index.files
  pub numbered : IsNumbered (λ (f : FileRow). f.id) t.files
  pub there : AllByRecursion (λ (f : FileRow). IsThere index f.id f.state) t.files
  pub owners : (parcel party : ℕ) → owner_in t parcel ≡ Some party → IsTrue (has index.people_at parcel party)
  pub interests : (parcel party : ℕ) → IsTrue (has_interest_in t parcel party) → IsTrue (has index.people_at parcel party)
