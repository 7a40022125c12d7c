-- A first record that isn't that of a parcel list.
use Rattle.std.proofs.Common.{◌≡◌, Bool, true, false, ℕ, List, [], ◌∷◌, inr, refl, subst}
use Rattle.std.specs.Prelude.{IsTrue, ◌↔◌, Option}
use Rattle.std.specs.Bool.{MatchBool}
use Rattle.csv.specs.declared.reader.Reader.{Reader}
use Rattle.permit_import.specs.Reading.{Behind, LacksHeader}
use Rattle.permit_import.specs.Records.{Fields, header}
use Rattle.permit_import.proofs.ReadLemmas.{begins}

-- a record that was read, by whether it is the wanted one
pub first_read : {R : Type 0} (remaining : R → Option (List ℕ)) (left : Option (List ℕ)) (reader : Reader R) (first : Fields) (is : Bool) →
    (IsTrue is ↔ (first ≡ header)) → Behind remaining left reader (first ∷ []) →
    MatchBool is (Behind remaining left reader (header ∷ [])) (LacksHeader left first)
first_read remaining left reader first true test behind = subst (λ f. Behind remaining left reader (f ∷ [])) (test.0 refl) behind
first_read remaining left reader first false test behind =
    inr ((λ e. let bad : false ≡ true = test.1 e in cc), begins remaining left reader (first ∷ []) behind)
