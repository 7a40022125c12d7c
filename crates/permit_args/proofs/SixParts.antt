-- Facts have six parts.
use Rattle.std.proofs.Common.{◌≡◌, ℕ, List, [], ◌∷◌, length, refl}
use Rattle.std.specs.Prelude.{Err}
use Rattle.permit_args.specs.FactsText.{facts_read}
use Rattle.permit_args.specs.declared.facts.FactsFault.TheVariants.{Count}

pub other_count : (parts : List (List ℕ)) → (length parts ≡ 6 → ⊥) → facts_read parts ≡ Err Count
other_count [] other = refl
other_count (a ∷ []) other = refl
other_count (a ∷ b ∷ []) other = refl
other_count (a ∷ b ∷ c ∷ []) other = refl
other_count (a ∷ b ∷ c ∷ d ∷ []) other = refl
other_count (a ∷ b ∷ c ∷ d ∷ e ∷ []) other = refl
other_count (a ∷ b ∷ c ∷ d ∷ e ∷ f ∷ []) other = absurd (other refl)
other_count (a ∷ b ∷ c ∷ d ∷ e ∷ f ∷ g ∷ more) other = refl
