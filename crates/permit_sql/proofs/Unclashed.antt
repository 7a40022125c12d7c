-- No two rows of a table have one key.
use Rattle.std.proofs.Common.{◌≡◌, inl, inr, ℕ, suc, ◌<◌, ◌≤◌, Bool, true, false, not, eqb, List, [], ◌∷◌, map, filter, length, refl, sym, subst, ◌∙◌, arith}
use Rattle.std.proofs.Common.{true≢false, IsPermutation}
use Rattle.std.specs.Prelude.{◌&&◌, ◌||◌, bytes_eq}
use Rattle.std.specs.List.{AllByRecursion, list_any}
use Rattle.std.proofs.lemmas.Bool.{cases_Bool}
use Rattle.std.proofs.lemmas.Bool.Decides.{nat_tests}
use Rattle.std.proofs.lemmas.List.Elements.{recursion_from_All, All-from_recursion}
use Rattle.std.proofs.lemmas.List.Sorted.{IsPermutation-sym, All-permutation}
use Rattle.std.proofs.lemmas.Slice.Eq.{bytes_eq-Decides}
use Rattle.sqlite_value.specs.Order.{Row}
use Rattle.sqlite_trees.specs.Tree.{IsAscending}
use Rattle.sqlite_keyed.proofs.ListLemmas.{all_unmap}
use Rattle.permit_sql.specs.Found.{IsNumbered}

-- ---- a text that no two values share comes at most once

module _ {X : Type 0} (key : X → List ℕ) where
  none_like : (t : List ℕ) (xs : List X) → AllByRecursion (λ y. bytes_eq (key y) t ≡ false) xs → filter (λ y. bytes_eq (key y) t) xs ≡ []
  none_like t [] all = refl
  none_like t (y ∷ ys) all = let apart = all.0 in rw apart (none_like t ys all.1)

  pub once_each : (xs : List X) → IsAscending (λ x y. bytes_eq (key y) (key x) ≡ false) xs → (t : List ℕ) → length (filter (λ x. bytes_eq (key x) t) xs) ≤ 1
  once_each [] up t = omega arith
  once_each (x ∷ xs) up t = elim (cases_Bool (bytes_eq (key x) t)) [
    | inl same ↦
        let none = none_like t xs (subst (λ k. AllByRecursion (λ y. bytes_eq (key y) k ≡ false) xs) ((bytes_eq-Decides (key x) t).0 same) up.0) in
        rw (same, none) (omega arith)
    | inr other ↦ rw other (once_each xs up.1 t)
  ]

pub all_weaker : {A : Type 0} {P Q : A → Type 0} → ((x : A) → P x → Q x) → (xs : List A) → AllByRecursion P xs → AllByRecursion Q xs
all_weaker f [] h = tt
all_weaker f (x ∷ xs) h = (f x h.0, all_weaker f xs h.1)

-- ---- the values of a table with a unique key

module _ {X : Type 0} (enc : X → Row) (number : X → ℕ) (key : X → List ℕ) (clash : Row → Row → Bool)
    (means : (x y : X) → clash (enc y) (enc x) ≡ (bytes_eq (key y) (key x) && not (eqb (number y) (number x)))) where
  none_of : (r : Row) (rows : List Row) → list_any (λ o. clash o r) rows ≡ false → AllByRecursion (λ o. clash o r ≡ false) rows
  none_of r [] none = tt
  none_of r (o ∷ rows) none = go (clash o r) none (none_of r rows)
    where
      go : (b : Bool) → (b || list_any (λ o. clash o r) rows) ≡ false →
          (list_any (λ o. clash o r) rows ≡ false → AllByRecursion (λ o. clash o r ≡ false) rows) → (b ≡ false) × AllByRecursion (λ o. clash o r ≡ false) rows
      go true e more = absurd (true≢false e)
      go false e more = (refl, more e)

  later_apart : (x : X) (n : ℕ) (xs : List X) → number x < n → IsNumbered number n xs → AllByRecursion (λ y. clash (enc y) (enc x) ≡ false) xs →
      AllByRecursion (λ y. bytes_eq (key y) (key x) ≡ false) xs
  later_apart x n [] low up all = tt
  later_apart x n (y ∷ ys) low up all =
      let e : number y ≡ n = up.0 in
      let differs : eqb (number y) (number x) ≡ false = grind (arith, nat_tests) in
      let split : (bytes_eq (key y) (key x) && not (eqb (number y) (number x))) ≡ false = sym (means x y) ∙ all.0 in (
        go (bytes_eq (key y) (key x)) (subst (λ b. (bytes_eq (key y) (key x) && not b) ≡ false) differs split),
        later_apart x (suc n) ys (omega (arith, low)) up.1 all.1,
      )
    where
      go : (b : Bool) → (b && true) ≡ false → b ≡ false
      go true h = h
      go false h = refl

  abbrev Pairs : List X → List X → Type 0
  Pairs xs ys = AllByRecursion (λ x. AllByRecursion (λ y. clash (enc y) (enc x) ≡ false) ys) xs

  ascend : (n : ℕ) (xs : List X) → IsNumbered number n xs → Pairs xs xs → IsAscending (λ x y. bytes_eq (key y) (key x) ≡ false) xs
  ascend n [] up all = tt
  ascend n (x ∷ xs) up all =
      let e : number x ≡ n = up.0 in
      (later_apart x (suc n) xs (omega (arith, e)) up.1 all.0.1, ascend (suc n) xs up.1 (all_weaker (λ z h. h.1) xs all.1))

  pub unclashed : (n : ℕ) (xs : List X) (tree : List Row) → IsNumbered number n xs → IsPermutation (map enc xs) tree →
      AllByRecursion (λ r. list_any (λ o. clash o r) tree ≡ false) tree → IsAscending (λ x y. bytes_eq (key y) (key x) ≡ false) xs
  unclashed n xs tree up same none =
      let back = IsPermutation-sym _ _ same in
      let P : Row → Type 0 = λ r. AllByRecursion (λ y. clash (enc y) r ≡ false) xs in
      let each = λ (r : Row) (h : list_any (λ o. clash o r) tree ≡ false).
      all_unmap (λ o. clash o r ≡ false) enc xs (recursion_from_All (λ o. clash o r ≡ false) (map enc xs)
      (All-permutation (λ o. clash o r ≡ false) tree (map enc xs) back (All-from_recursion (λ o. clash o r ≡ false) tree (none_of r tree h)))) in
      let over : AllByRecursion P tree = all_weaker each tree none in
      ascend n xs up (all_unmap P enc xs (recursion_from_All P (map enc xs) (All-permutation P tree (map enc xs) back (All-from_recursion P tree over))))
