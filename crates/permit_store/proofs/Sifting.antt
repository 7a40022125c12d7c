-- What passes a test of a list in another order.
use Rattle.std.proofs.Common.{ℕ, zero, suc, ◌<◌, Bool, true, false, cond, List, [], ◌∷◌, length, filter, get_or, set, swap, arith}
use Rattle.std.specs.Prelude.{IsPermutation}
use Rattle.std.proofs.lemmas.List.Sorted.{IsPermutation-refl, IsPermutation-keeps, IsPermutation-trans, IsPermutation-cons, IsPermutation-append_left}
use Rattle.std.proofs.lemmas.List.Sorted.{IsPermutation-append_comm}

module _ {A : Type 0} (test : A → Bool) where
  -- the same passes of the one and of the other
  abbrev PassAlike : List A → List A → Type 0
  PassAlike xs ys = IsPermutation (filter test xs) (filter test ys)

  chain : (xs ys zs : List A) → PassAlike xs ys → PassAlike ys zs → PassAlike xs zs
  chain xs ys zs = IsPermutation-trans (filter test xs) (filter test ys) (filter test zs)

  skip : (x : A) (xs ys : List A) → PassAlike xs ys → PassAlike (x ∷ xs) (x ∷ ys)
  skip x xs ys h = either (test x)
    where
      either : (b : Bool) → IsPermutation (cond b (x ∷ filter test xs) (filter test xs)) (cond b (x ∷ filter test ys) (filter test ys))
      either true = IsPermutation-cons x (filter test xs) (filter test ys) h
      either false = h

  turn : (x y : A) (xs : List A) → PassAlike (x ∷ y ∷ xs) (y ∷ x ∷ xs)
  turn x y xs = either (test x) (test y)
    where
      either : (b c : Bool) → IsPermutation (cond b (x ∷ cond c (y ∷ filter test xs) (filter test xs)) (cond c (y ∷ filter test xs) (filter test xs)))
          (cond c (y ∷ cond b (x ∷ filter test xs) (filter test xs)) (cond b (x ∷ filter test xs) (filter test xs)))
      either true true = IsPermutation-append_left (filter test xs) (x ∷ y ∷ []) (y ∷ x ∷ []) (IsPermutation-append_comm (x ∷ []) (y ∷ []))
      either true false = IsPermutation-refl (x ∷ filter test xs)
      either false true = IsPermutation-refl (y ∷ filter test xs)
      either false false = IsPermutation-refl (filter test xs)

  to_head : (xs : List A) (j : ℕ) (x d : A) → j < length xs → PassAlike (x ∷ xs) (get_or xs j d ∷ set xs j x)
  to_head [] j x d h = absurd (omega arith)
  to_head (y ∷ xs) zero x d h = turn x y xs
  to_head (y ∷ xs) (suc j) x d h =
      let item = get_or xs j d in
      let rest = set xs j x in
      chain (x ∷ y ∷ xs) (y ∷ x ∷ xs) (item ∷ y ∷ rest) (turn x y xs)
      (chain (y ∷ x ∷ xs) (y ∷ item ∷ rest) (item ∷ y ∷ rest) (skip y (x ∷ xs) (item ∷ rest) (to_head xs j x d (omega arith))) (turn y item rest))

  exchanged : (xs : List A) (i j : ℕ) (d : A) → i < length xs → j < length xs → PassAlike xs (set (set xs i (get_or xs j d)) j (get_or xs i d))
  exchanged [] i j d h k = absurd (omega arith)
  exchanged (x ∷ xs) zero zero d h k = IsPermutation-refl (filter test (x ∷ xs))
  exchanged (x ∷ xs) zero (suc j) d h k = to_head xs j x d (omega arith)
  exchanged (x ∷ xs) (suc i) zero d h k = to_head xs i x d (omega arith)
  exchanged (x ∷ xs) (suc i) (suc j) d h k = skip x xs (set (set xs i (get_or xs j d)) j (get_or xs i d)) (exchanged xs i j d (omega arith) (omega arith))

  swapped : (xs : List A) (i j : ℕ) → i < length xs → j < length xs → PassAlike xs (swap xs i j)
  swapped [] i j h k = IsPermutation-refl []
  swapped (x ∷ xs) i j h k = exchanged (x ∷ xs) i j x h k

  -- the same pass, in another order
  pub pass_alike : (xs ys : List A) → IsPermutation xs ys → PassAlike xs ys
  pass_alike xs = IsPermutation-keeps xs (PassAlike xs) (IsPermutation-refl (filter test xs))
      (λ ys i j h k alike. chain xs ys (swap ys i j) alike (swapped ys i j h k))
