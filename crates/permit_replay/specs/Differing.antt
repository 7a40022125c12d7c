-- Where tables differ first.
use Rattle.std.specs.Prelude.{◌≡◌, ◌≤◌, ◌<◌, ℕ, ◌==◌, List, Option, None, Some, find, filter}
use Rattle.permit_model.specs.Caller.{Party}
use Rattle.permit_model.specs.Parcels.{Parcel}
use Rattle.permit_model.specs.Tables.{FileRow, Paper, Tables}
use Rattle.permit_store.specs.Interests.{DeclareSame}
use Rattle.permit_replay.specs.declared.alike.differing.Difference.{Difference}
use Rattle.permit_replay.specs.declared.alike.differing.Difference.TheVariants as difference

-- ---- the rows of a number

abbrev pub party_at : ℕ → Tables → Option Party
party_at number t = find (λ p. p.id == number) t.parties

abbrev pub parcel_at : ℕ → Tables → Option Parcel
parcel_at number t = find (λ p. p.id == number) t.parcels

-- the row of a file, and its papers
abbrev pub file_at : ℕ → Tables → Option FileRow × List Paper
file_at number t = (find (λ f. f.id == number) t.files, filter (λ p. p.file == number) t.papers)

abbrev pub HaveSameParty : Tables → Tables → ℕ → Type 0
HaveSameParty t u number = party_at number t ≡ party_at number u

abbrev pub HaveSameParcel : Tables → Tables → ℕ → Type 0
HaveSameParcel t u number = parcel_at number t ≡ parcel_at number u

abbrev pub HaveSameFile : Tables → Tables → ℕ → Type 0
HaveSameFile t u number = file_at number t ≡ file_at number u

-- ---- the numbers of a table

-- of each number from 1 to the count the two have the same
abbrev pub HaveSame : ℕ → (ℕ → Type 0) → Type 0
HaveSame count same = (k : ℕ) → 1 ≤ k → k ≤ count → same k

-- of the numbers from 1 to the count this is the first of which the two have not the same
pub record IsFirstOther (count : ℕ) (same : ℕ → Type 0) (number : ℕ) : Type 0 where
  pub low : 1 ≤ number
  pub high : number ≤ count
  pub before : (k : ℕ) → 1 ≤ k → k < number → same k
  pub here : same number → ⊥

-- that number, or none, where the two have the same of each
abbrev pub FirstOther : ℕ → (ℕ → Type 0) → Option ℕ → Type 0
FirstOther count same None = HaveSame count same
FirstOther count same (Some number) = IsFirstOther count same number

-- ---- the places

-- the two have the same parties, and likewise
abbrev pub HaveSameParties : Tables → Tables → Type 0
HaveSameParties t u = HaveSame t.desk.parties (HaveSameParty t u)

abbrev pub HaveSameParcels : Tables → Tables → Type 0
HaveSameParcels t u = HaveSame t.desk.parcels (HaveSameParcel t u)

abbrev pub HaveSameFiles : Tables → Tables → Type 0
HaveSameFiles t u = HaveSame t.desk.files (HaveSameFile t u)

-- at each place after the desk the two have the same
pub record HaveSameBehind (t u : Tables) : Type 0 where
  pub parties : HaveSameParties t u
  pub parcels : HaveSameParcels t u
  pub interests : DeclareSame t.interests u.interests
  pub files : HaveSameFiles t u

-- The two differ at this place, and have the same at each place before it. The desk comes first, and after it come the parties
-- by their numbers, the parcels by theirs, the interests, and the files by their numbers.
abbrev pub IsFirstDifference : Tables → Tables → Difference → Type 0
IsFirstDifference t u difference.Desk = t.desk ≡ u.desk → ⊥
IsFirstDifference t u (difference.Party number) =
    (t.desk ≡ u.desk) × IsFirstOther t.desk.parties (HaveSameParty t u) number
IsFirstDifference t u (difference.Parcel number) =
    (t.desk ≡ u.desk) × HaveSameParties t u × IsFirstOther t.desk.parcels (HaveSameParcel t u) number
IsFirstDifference t u difference.Interests =
    (t.desk ≡ u.desk) × HaveSameParties t u × HaveSameParcels t u × (DeclareSame t.interests u.interests → ⊥)
IsFirstDifference t u (difference.File number) =
    (t.desk ≡ u.desk) × HaveSameParties t u × HaveSameParcels t u × DeclareSame t.interests u.interests
    × IsFirstOther t.desk.files (HaveSameFile t u) number
