-- The two words of a list.
use Rattle.std.proofs.Common.{◌≡◌, refl, ap, arith, true, false, not, ◌&&◌, cond, ℕ, suc, ◌==◌, length, List, [], ◌∷◌, Option, Some, None}
use Rattle.std.proofs.lemmas.Bool.Decides.{nat_tests}
use Rattle.permit_policy.specs.PolicyText.{are_words, is_bad_pair, pair_in, words_of}
use Rattle.permit_policy.proofs.Passes.{none_unless}

abbrev pub pair_read : {A : Type 0} → (List ℕ → Option A) → List (List ℕ) → Option (A × A)
pair_read read texts = cond (is_bad_pair read (Some texts)) None (pair_in (words_of read (Some texts)))

two_missing : {A : Type 0} (read : List ℕ → Option A) (a b : List ℕ) (x y : Option A) → read a ≡ x → read b ≡ y
    → None ≡ pair_read read (a ∷ b ∷ []) → is_bad_pair read (Some (a ∷ b ∷ [])) ≡ true
two_missing read a b x y p q e = grind (arith, none_unless)

not_two : (n : ℕ) → (suc (suc (suc n)) == 2) ≡ false
not_two n = grind (arith, nat_tests)

-- where no pair was read the list is bad
pub pair_missing : {A : Type 0} (read : List ℕ → Option A) (texts : List (List ℕ)) → None ≡ pair_read read texts → is_bad_pair read (Some texts) ≡ true
pair_missing read [] e = refl
pair_missing read (a ∷ []) e = refl
pair_missing read (a ∷ b ∷ []) e = two_missing read a b (read a) (read b) refl refl e
pair_missing read (a ∷ b ∷ c ∷ rest) e = ap (λ t. not (t && are_words read (a ∷ b ∷ c ∷ rest))) (not_two (length rest))
