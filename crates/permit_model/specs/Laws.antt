-- The words in which the laws of this crate are stated.
use Rattle.std.specs.Prelude.{◌≡◌, ◌⊎◌, ℕ, true, List, map, Some}
use Rattle.permit_base.specs.declared.words.Relation.{Relation}
use Rattle.permit_base.specs.declared.words.Relations.{Relations}
use Rattle.permit_base.specs.declared.request.Asked.{Asked}
use Rattle.permit_base.specs.declared.request.Request.{Request}
use Rattle.permit_base.specs.declared.request.Request.TheVariants.{AddParcel}
use Rattle.permit_model.specs.History.{History}
use Rattle.permit_model.specs.Files.{CaseFile, case_numbered}
use Rattle.permit_model.specs.Facts.{Facts, holds, no_relations}
use Rattle.permit_model.specs.Policy.{Policy, allows}
use Rattle.permit_model.specs.Opened.{only, both_of, has_both}
use Rattle.permit_model.specs.Machine.{IsHistory}

-- what holds of each file of each history
abbrev pub OfEachFile : (History → CaseFile → Type 0) → Type 0
OfEachFile P = (h : History) (id : ℕ) (file : CaseFile) → IsHistory h → case_numbered h id ≡ Some file → P h file

-- the facts with other relations
abbrev pub with_relations : Facts → Relations → Facts
with_relations facts set = record facts { relations = set }

-- what is allowed to the set is allowed to none of its relations, to one of them alone, or to two of them alone
abbrev pub Narrowed : Policy → Facts → Relations → Type 0
Narrowed policy facts set =
    (allows policy (with_relations facts no_relations) ≡ true)
    ⊎ ((r : Relation) × (holds set r ≡ true) × (allows policy (with_relations facts (only r)) ≡ true))
    ⊎ ((a b : Relation) × (has_both set (a, b) ≡ true) × (allows policy (with_relations facts (both_of (a, b))) ≡ true))

-- a parcel that is asked for: its lot, address and owner
abbrev pub Wanted : Type 0
Wanted = List ℕ × List ℕ × ℕ

-- the request for it
abbrev pub parcel_wanted : Wanted → Request
parcel_wanted p = AddParcel p.0 p.1 p.2

-- the requests for parcels of the caller who has the token, on the day
abbrev pub parcels_asked : List ℕ → ℕ → List Wanted → List (Asked × ℕ)
parcels_asked token day wanted = map (λ p. (record { token = token; request = parcel_wanted p }, day)) wanted
