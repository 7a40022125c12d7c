-- Each value of a sorted answer and the next.
use Rattle.std.proofs.Common.{◌≡◌, suc, ◌≤◌, Bool, true, false, cond, List, [], ◌∷◌, map, filter, length, refl, sym, ap, ap₂, ◌∙◌, arith}
use Rattle.std.proofs.Common.{IsSorted, Ordering, Less, Equal, Greater, is_lt, is_eq, true≢false}
use Rattle.std.specs.Prelude.{⊤}
use Rattle.std.specs.List.{AllByRecursion}
use Rattle.std.specs.Cmp.{IsTotalOrder}
use Rattle.std.specs.Ordering.{ordering_reverse}
use Rattle.std.proofs.lemmas.Cmp.{tied_itself}
use Rattle.sqlite_trees.specs.Tree.{IsAscending}

-- it is so of the first of a list, if there is one
abbrev pub First : {Y : Type 0} → (Y → Type 0) → List Y → Type 0
First P [] = ⊤
First P (y ∷ ys) = P y

-- it is so of each value and the next
abbrev pub Adjacent : {Y : Type 0} → (Y → Y → Type 0) → List Y → Type 0
Adjacent R [] = ⊤
Adjacent R (x ∷ xs) = First (R x) xs × Adjacent R xs

-- at most one value passes a test, if none passes it after one that does
module _ {X : Type 0} (test : X → Bool) (R : X → X → Type 0) (apart : (x y : X) → test x ≡ true → R x y → test y ≡ false) where
  none_after : (x : X) (ys : List X) → test x ≡ true → AllByRecursion (R x) ys → filter test ys ≡ []
  none_after x [] is all = refl
  none_after x (y ∷ ys) is all = let other = apart x y is all.0 in rw other (none_after x ys is all.1)

  pub one_passes : (xs : List X) → IsAscending R xs → length (filter test xs) ≤ 1
  one_passes [] up = omega arith
  one_passes (x ∷ xs) up = go (test x) refl (one_passes xs up.1)
    where
      go : (b : Bool) → test x ≡ b → length (filter test xs) ≤ 1 → length (cond b (x ∷ filter test xs) (filter test xs)) ≤ 1
      go true is more = let none = none_after x xs is up.0 in rw none (omega arith)
      go false is more = more

fewer : {X : Type 0} (test : X → Bool) (x : X) (xs : List X) → length (filter test (x ∷ xs)) ≤ 1 → length (filter test xs) ≤ 1
fewer test x xs h = go (test x) h
  where
    go : (b : Bool) → length (cond b (x ∷ filter test xs) (filter test xs)) ≤ 1 → length (filter test xs) ≤ 1
    go true h = omega (arith, h)
    go false h = h

two_of : {X : Type 0} (test : X → Bool) (x y : X) (xs : List X) → test x ≡ true → test y ≡ true → ¬ (length (filter test (x ∷ y ∷ xs)) ≤ 1)
two_of test x y xs p q h = let long : length (x ∷ y ∷ filter test xs) ≤ 1 = rw (p, q) at h in omega (arith, long)

module _ {Y : Type 0} (cmp : Y → Y → Ordering) (total : IsTotalOrder cmp) (IsKeyed : Y → Type 0) where
  below : (x y : Y) (ys : List Y) → is_lt (cmp y x) ≡ false → length (filter (λ b. is_eq (cmp x b)) (x ∷ y ∷ ys)) ≤ 1 → cmp x y ≡ Less
  below x y ys sorted once = go (cmp x y) refl
    where
      go : (o : Ordering) → cmp x y ≡ o → o ≡ Less
      go Less e = refl
      go Equal e = absurd (two_of (λ b. is_eq (cmp x b)) x y ys (ap is_eq (tied_itself total x)) (ap is_eq e) once)
      go Greater e = absurd (true≢false (sym (ap is_lt (total.antisymm y x ∙ ap ordering_reverse e)) ∙ sorted))

  -- values with no like are strictly below the next
  pub climbs : (ys : List Y) → IsSorted cmp ys → ((a : Y) → IsKeyed a → length (filter (λ b. is_eq (cmp a b)) ys) ≤ 1) →
      Adjacent (λ a b. IsKeyed a → cmp a b ≡ Less) ys
  climbs [] sorted once = tt
  climbs (x ∷ []) sorted once = (tt, tt)
  climbs (x ∷ y ∷ ys) sorted once =
      let tail : IsSorted cmp (y ∷ ys) = λ k d p q. rw Rattle.std.proofs.Common.add-one
      (rw Rattle.std.proofs.Common.add-one at (sorted (suc k) d (omega arith) (omega arith))) in
      let first : is_lt (cmp y x) ≡ false = sorted 0 x (omega arith) (omega arith) in
      (λ keyed. below x y ys first (once x keyed), climbs (y ∷ ys) tail (λ a keyed. fewer (λ b. is_eq (cmp a b)) x (y ∷ ys) (once a keyed)))

-- a list each of whose values is of some form is of that form
pub all_of_form : {X Y : Type 0} (out : X → Y) (P : X → Type 0) (ys : List Y) → AllByRecursion (λ y. (x : X) × (y ≡ out x) × P x) ys → (xs : List X)
    × (ys ≡ map out xs) × AllByRecursion P xs
all_of_form out P [] h = ([], refl, tt)
all_of_form out P (y ∷ ys) h = let more = all_of_form out P ys h.1 in (h.0.0 ∷ more.0, ap₂ ◌∷◌ h.0.1 more.1, (h.0.2, more.2))

pub all_in_form : {X Y : Type 0} (out : X → Y) (P : X → Type 0) (xs : List X) → AllByRecursion P xs →
    AllByRecursion (λ y. (x : X) × (y ≡ out x) × P x) (map out xs)
all_in_form out P [] h = tt
all_in_form out P (x ∷ xs) h = ((x, refl, h.0), all_in_form out P xs h.1)

pub long_map : {A B : Type 0} (f : A → B) (xs : List A) → length (map f xs) ≡ length xs
long_map f [] = refl
long_map f (x ∷ xs) = ap suc (long_map f xs)
