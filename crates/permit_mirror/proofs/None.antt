-- A call that fails before it hands anything out.
use Rattle.std.proofs.Common.{◌≡◌, ◌<◌, ℕ, ◌^◌, Bool, List, [], refl, ◌∙◌, arith}
use Rattle.std.specs.Prelude.{Result, Ok, Err, IsErr, ⊤}
use Rattle.std.proofs.lemmas.List.Sorted.{IsPermutation-refl}
use Rattle.permit_model.specs.Routes.{Found}
use Rattle.permit_model.specs.Tables.{Tables}
use Rattle.permit_store.specs.Frames.{StoreView, Reads}
use Rattle.permit_store.specs.Handing.{AreAmong, AreHanded, Hands, more_handed}

same_count : (n : ℕ) → n < 2 ^ 64 → n ≡ more_handed 0 n
same_count n few = omega arith

pub none_handed : {T A E F : Type 0} (took : T → Found → T → Bool → Type 0) (old new : StoreView) (a : T) (why : E) (result : Result Bool F) → IsErr result
    → old.handed < 2 ^ 64 → Reads {A = A} ⊤ old.handed old new (Err why) → Hands took [] old new a a result
none_handed took old new a why (Ok all) wrong few r = cc wrong
none_handed took old new a why (Err e) wrong few r = record {
  taken = refl;
  read = record { kept = r.kept; one = λ _ _. tt; doubt = r.doubt; failed = r.failed; commits = r.commits; handed = r.handed ∙ same_count old.handed few };
}

pub none_in_order : {F : Type 0} (t : Tables) (found : List Found) (result : Result Bool F) → IsErr result → AreHanded t result [] found
none_in_order t found (Ok all) wrong = cc wrong
none_in_order t found (Err e) wrong = (found, tt, record { same = IsPermutation-refl found; order = λ _. refl })

pub none_among : {F : Type 0} (found : List Found) (result : Result Bool F) → IsErr result → AreAmong result [] found
none_among found (Ok all) wrong = cc
none_among found (Err e) wrong = (found, tt, IsPermutation-refl found)
