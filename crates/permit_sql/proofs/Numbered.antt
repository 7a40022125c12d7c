-- Values that are numbered.
use Rattle.std.proofs.Common.{◌≡◌, inl, inr, ℕ, zero, suc, ◌-◌, ◌<◌, ◌≤◌, false, eqb, List, [], ◌∷◌, map, filter, find, length, slice_get}
use Rattle.std.proofs.Common.{option_map, refl, arith}
use Rattle.std.proofs.lemmas.Bool.{cases_Bool, eqb-true}
use Rattle.std.proofs.lemmas.Bool.Decides.{nat_tests}
use Rattle.permit_sql.specs.Found.{IsNumbered}

module _ {X : Type 0} (number : X → ℕ) where
  none_before : (id n : ℕ) (xs : List X) → id < n → IsNumbered number n xs → filter (λ x. eqb (number x) id) xs ≡ []
  none_before id n [] low h = refl
  none_before id n (x ∷ xs) low h =
      let e : number x ≡ n = h.0 in
      let apart : eqb (number x) id ≡ false = grind (arith, nat_tests) in
      rw apart (none_before id (suc n) xs (omega (arith, low)) h.1)

  pub once_numbered : (n : ℕ) (xs : List X) → IsNumbered number n xs → (id : ℕ) → length (filter (λ x. eqb (number x) id) xs) ≤ 1
  once_numbered n [] h id = omega arith
  once_numbered n (x ∷ xs) h id = elim (cases_Bool (eqb (number x) id)) [
    | inl same ↦
        let e : number x ≡ n = h.0 in
        let here = eqb-true (number x) id same in
        let none = none_before id (suc n) xs (omega (arith, e, here)) h.1 in
        rw (same, none) (omega arith)
    | inr other ↦ rw other (once_numbered (suc n) xs h.1 id)
  ]

  pub find_numbered : (n : ℕ) (xs : List X) → IsNumbered number n xs → (id : ℕ) → n ≤ id → find (λ x. eqb (number x) id) xs ≡ slice_get xs (id - n)
  find_numbered n [] h id low = refl
  find_numbered n (x ∷ xs) h id low = elim (cases_Bool (eqb (number x) id)) [
    | inl same ↦
        let e : number x ≡ n = h.0 in
        let here = eqb-true (number x) id same in
        let first : id - n ≡ 0 = omega (arith, e, here) in
        rw (same, first) refl
    | inr other ↦
        let e : number x ≡ n = h.0 in
        let less : suc n ≤ id = grind (arith, nat_tests) in
        let next : id - n ≡ suc (id - suc n) = omega (arith, less) in
        rw (other, next) (find_numbered (suc n) xs h.1 id less)
  ]

pub get_map : {A B : Type 0} (f : A → B) (xs : List A) (at : ℕ) → slice_get (map f xs) at ≡ option_map f (slice_get xs at)
get_map f [] at = refl
get_map f (x ∷ xs) zero = refl
get_map f (x ∷ xs) (suc at) = get_map f xs at
