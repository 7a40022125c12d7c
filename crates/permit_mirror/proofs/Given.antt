-- What is said of each number of a list, as a loop over it goes on.
use Rattle.std.proofs.Common.{◌≡◌, ◌<◌, ℕ, ◌+◌, ◌==◌, true, false, List, [], ◌∷◌, length, get_or, take, sym, ◌∙◌, ap, subst}
use Rattle.std.specs.Prelude.{◌||◌}
use Rattle.std.specs.List.{list_any}
use Rattle.std.proofs.Common.{inl, inr}
use Rattle.std.proofs.lemmas.Bool.{eqb-true, or_cases}
use Rattle.std.proofs.lemmas.List.{take_more}
use Rattle.std.proofs.lemmas.List.Folds.{list_any-append}

last_of : (x n : ℕ) → list_any (λ m. m == n) (x ∷ []) ≡ true → x ≡ n
last_of x n h = elim (or_cases (x == n) false h) [ inl e ↦ eqb-true x n e | inr e ↦ cc ]

-- one number more
pub given_more : (P : ℕ → Type 0) (xs : List ℕ) (i d : ℕ) → i < length xs → ((n : ℕ) → list_any (λ m. m == n) (take i xs) ≡ true → P n) → P (get_or xs i d)
    → (n : ℕ) → list_any (λ m. m == n) (take (i + 1) xs) ≡ true → P n
given_more P xs i d h before here n there =
    let split = list_any-append (λ m. m == n) (take i xs) (get_or xs i d ∷ []) in
    let two : (list_any (λ m. m == n) (take i xs) || list_any (λ m. m == n) (get_or xs i d ∷ [])) ≡ true =
    sym split ∙ ap (list_any (λ m. m == n)) (sym (take_more xs i d h)) ∙ there in
    elim (or_cases (list_any (λ m. m == n) (take i xs)) (list_any (λ m. m == n) (get_or xs i d ∷ [])) two)
    [ inl e ↦ before n e | inr e ↦ subst P (last_of (get_or xs i d) n e) here ]
