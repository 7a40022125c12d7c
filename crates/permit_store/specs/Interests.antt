-- Which interests are declared.
use Rattle.std.specs.Prelude.{◌≡◌, ℕ, ◌==◌, ◌&&◌, Bool, List}
use Rattle.std.specs.List.{list_any}
use Rattle.permit_model.specs.Parcels.{Interest}

-- whether the party has declared an interest in the parcel
abbrev pub is_declared : ℕ → ℕ → List Interest → Bool
is_declared parcel party interests = list_any (λ i. (i.parcel == parcel) && (i.party == party)) interests

-- the same interests are declared, in any order and however often each is there
abbrev pub DeclareSame : List Interest → List Interest → Type 0
DeclareSame given held = (parcel party : ℕ) → is_declared parcel party given ≡ is_declared parcel party held
