-- Whether an element passes two tests.
use Rattle.std.proofs.Common.{◌≡◌, Bool, true, false, cond, List, [], ◌∷◌, filter, refl, ap}
use Rattle.std.specs.Prelude.{◌&&◌, ◌||◌}
use Rattle.std.specs.List.{list_any}

-- it passes both, where one of those that pass the first passes the second
pub passes_both : {A : Type 0} (p q : A → Bool) (xs : List A) → list_any (λ x. p x && q x) xs ≡ list_any q (filter p xs)
passes_both p q [] = refl
passes_both p q (x ∷ xs) = either (p x) (passes_both p q xs)
  where
    either : (b : Bool) → list_any (λ x. p x && q x) xs ≡ list_any q (filter p xs) →
        ((b && q x) || list_any (λ x. p x && q x) xs) ≡ list_any q (cond b (x ∷ filter p xs) (filter p xs))
    either true ih = ap (λ c. q x || c) ih
    either false ih = ih
