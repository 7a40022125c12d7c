-- What holds of the rows of typed tables that a test of their soundness passes, and of those at which it stops.
use Rattle.std.specs.Prelude.{◌≡◌, ◌⊎◌, ◌-◌, ℕ, Bool, true, false, IsTrue, Option, Some, None, List, [], ◌∷◌, ◌++◌, slice_get, slice_set}
use Rattle.sqlite_value.specs.Order.{Row}
use Rattle.permit_base.specs.declared.words.Role.{Role}
use Rattle.permit_model.specs.Caller.{Party}
use Rattle.permit_model.specs.Parcels.{Parcel, Interest}
use Rattle.permit_model.specs.Tables.{FileRow, Paper}
use Rattle.permit_sql_rows.specs.Rows.{shown_party, shown_parcel, shown_file, shown_interest, shown_paper}
use Rattle.permit_sql_rows.specs.Kept.{IsNamed}
use Rattle.permit_sql_rows.specs.Typed.{IsParty, IsParcel, IsInterest, IsFile, IsPaper}
use Rattle.permit_sql.specs.Tested.{fits_parcel, fits_interest, fits_file, fits_paper, first_tally, next_tally}
use Rattle.permit_sql.specs.declared.tally.Tally.{Tally}

-- the role of a party is added
abbrev pub PassesParty : List Role → Row → List Role → Type 0
PassesParty before row after = (p : Party) → IsParty p → row ≡ shown_party p → after ≡ before ++ p.role ∷ []

abbrev pub StopsParty : Row → Bool → Type 0
StopsParty row lacks_memory = (p : Party) → IsParty p → row ≡ shown_party p → IsTrue lacks_memory

abbrev pub PassesParcel : ℕ → Row → Type 0
PassesParcel parties row = (p : Parcel) → IsParcel p → row ≡ shown_parcel p → fits_parcel parties p ≡ true

abbrev pub StopsParcel : ℕ → Row → Type 0
StopsParcel parties row = (p : Parcel) → IsParcel p → row ≡ shown_parcel p → fits_parcel parties p ≡ false

abbrev pub PassesInterest : (parcels parties : ℕ) → Row → Type 0
PassesInterest parcels parties row = (i : Interest) → IsInterest i → row ≡ shown_interest i → fits_interest parcels parties i ≡ true

abbrev pub StopsInterest : (parcels parties : ℕ) → Row → Type 0
StopsInterest parcels parties row = (i : Interest) → IsInterest i → row ≡ shown_interest i → fits_interest parcels parties i ≡ false

-- the tally of the file before its papers are read is added
abbrev pub PassesFile : Option ℕ → List Role → (parcels last : ℕ) → List Tally → Row → List Tally → Type 0
PassesFile upgrade roles parcels last before row after =
    (f : FileRow) → IsFile f → IsNamed upgrade f.id f.state → row ≡ shown_file f
    → (fits_file roles parcels last f.state ≡ true) × (after ≡ before ++ first_tally f.state ∷ [])

abbrev pub StopsFile : Option ℕ → List Role → (parcels last : ℕ) → Row → Bool → Type 0
StopsFile upgrade roles parcels last row lacks_memory =
    (f : FileRow) → IsFile f → IsNamed upgrade f.id f.state → row ≡ shown_file f → (fits_file roles parcels last f.state ≡ false) ⊎ IsTrue lacks_memory

-- the tally of a paper's file changes
abbrev pub PassesPaper : (parties last : ℕ) → List Tally → Row → List Tally → Type 0
PassesPaper parties last before row after =
    (p : Paper) → IsPaper p → row ≡ shown_paper p → (fits_paper parties last p ≡ true)
    × ((next : Tally) × (next_tally p (slice_get before (p.file - 1)) ≡ Some next) × (after ≡ slice_set before (p.file - 1) next))

abbrev pub StopsPaper : (parties last : ℕ) → List Tally → Row → Bool → Type 0
StopsPaper parties last before row lacks_memory =
    (p : Paper) → IsPaper p → row ≡ shown_paper p
    → ((fits_paper parties last p ≡ false) ⊎ (next_tally p (slice_get before (p.file - 1)) ≡ None)) ⊎ IsTrue lacks_memory
