-- Files sorted by number and thinned of equal numbers.
use Rattle.std.proofs.Common.{◌≡◌, ◌↔◌, ◌<◌, ◌≤◌, ◌==◌, ◌+◌, ℕ, Bool, true, false, IsTrue, cond, zero, suc, length, true≢false, List, [], ◌∷◌, refl, sym, ◌∙◌, ap, subst, arith}
use Rattle.std.specs.Cmp.{IsEquivalence}
use Rattle.std.specs.List.{AllByRecursion, AllAdjacentBelow, IsAllAdjacentAnswer, Contains, Any, dedup, dedup_from}
use Rattle.std.specs.Prelude.{nat_lt, slice_index_or}
use Rattle.std.specs.List.Sorted.{IsPermutation, IsNonDecreasingBy}
use Rattle.std.proofs.lemmas.Bool.{eqb-true, eq-eqb}
use Rattle.std.proofs.lemmas.Bool.Decides.{nat_tests}
use Rattle.std.proofs.lemmas.List.Kept.{Any-dedup, Contains-from_dedup}
use Rattle.std.proofs.lemmas.List.Sorted.{IsPermutation-sym, Contains-permutation}
use Rattle.permit_model.specs.Tables.{FileView}
use Rattle.permit_office.specs.Listings.{AreRising}

abbrev pub number : FileView → ℕ
number view = view.row.id

abbrev pub same_number : FileView → FileView → Bool
same_number a b = number a == number b

-- from the view on, no number falls
Level : FileView → List FileView → Type 0
Level k [] = Unit {0}
Level k (x ∷ xs) = (number k ≤ number x) × Level x xs

level_from : (k : FileView) (xs : List FileView) → IsNonDecreasingBy number (k ∷ xs) → Level k xs
unfolding Level
level_from k [] up = tt
level_from k (x ∷ xs) up = (up 0 1 k (omega arith) (omega arith), level_from x xs (λ i j d le lt. up (suc i) (suc j) d (omega arith) (omega arith)))

level_same : (a b : FileView) (xs : List FileView) → number a ≡ number b → Level b xs → Level a xs
unfolding Level
level_same a b [] e up = tt
level_same a b (x ∷ xs) e up = (omega (arith, e, up.0), up.1)

above_more : (n m : ℕ) (xs : List FileView) → n ≤ m → AllByRecursion (λ y. m ≤ number y) xs → AllByRecursion (λ y. n ≤ number y) xs
above_more n m [] le all = all
above_more n m (x ∷ xs) le all = (omega (arith, le, all.0), above_more n m xs le all.1)

below_more : (n m : ℕ) (xs : List FileView) → n < m → AllByRecursion (λ y. m ≤ number y) xs → AllByRecursion (λ y. n < number y) xs
below_more n m [] lt all = all
below_more n m (x ∷ xs) lt all = (omega (arith, lt, all.0), below_more n m xs lt all.1)

apart : (a b : ℕ) → (b == a) ≡ false → a ≤ b → a < b
apart a b e le = grind (arith, nat_tests)

-- what is left rises, from the first view's number on
Rises : FileView → List FileView → Type 0
Rises k xs = AllByRecursion (λ y. number k ≤ number y) xs × AreRising xs

same_by : (k x : FileView) (xs : List FileView) (b : Bool) → (number x == number k) ≡ b → Level x xs → b ≡ true → Level k xs
same_by k x xs b e up is = level_same k x xs (sym (eqb-true (number x) (number k) (e ∙ is))) up

rises_by : (k x : FileView) (xs : List FileView) (b : Bool) → (number x == number k) ≡ b → number k ≤ number x →
    (b ≡ true → Rises k (dedup_from same_number k xs)) → Rises x (dedup_from same_number x xs) →
    Rises k (cond b (dedup_from same_number k xs) (k ∷ dedup_from same_number x xs))
unfolding Rises
rises_by k x xs true e le first second = first refl
rises_by k x xs false e le first second = (
  (omega arith, above_more (number k) (number x) (dedup_from same_number x xs) le second.0),
  (below_more (number k) (number x) (dedup_from same_number x xs) (apart (number k) (number x) e le) second.0, second.1),
)

rises : (k : FileView) (xs : List FileView) → Level k xs → Rises k (dedup_from same_number k xs)
unfolding Level Rises
rises k [] up = ((omega arith, tt), (tt, tt))
rises k (x ∷ xs) up = rises_by k x xs (number x == number k) refl up.0 (λ e. rises k xs (same_by k x xs (number x == number k) refl up.1 e)) (rises x xs up.1)

rising : (xs : List FileView) → IsNonDecreasingBy number xs → AreRising (dedup same_number xs)
unfolding Rises
rising [] up = tt
rising (x ∷ xs) up = (rises x xs (level_from x xs up)).1

same_laws : IsEquivalence same_number
same_laws = record {
  refl = λ x. eq-eqb (number x) (number x) refl;
  symm = λ x y. turned (number x) (number y);
  congr = λ x y z e. ap (λ n. n == number z) (eqb-true (number x) (number y) e);
}
  where
    turned : (a b : ℕ) → (a == b) ≡ (b == a)
    turned a b = grind (arith, nat_tests)

-- ---- files of which each has a greater number than the one before it

further : (n m : ℕ) (xs : List FileView) → n < m → AllByRecursion (λ y. m < number y) xs → AllByRecursion (λ y. n < number y) xs
further n m [] lt all = all
further n m (x ∷ xs) lt all = (omega (arith, lt, all.0), further n m xs lt all.1)

climbing : (xs : List FileView) → AllAdjacentBelow (λ x y. number x < number y) xs (length xs) → AreRising xs
climbing [] up = tt
climbing (x ∷ []) up = (tt, tt)
climbing (x ∷ y ∷ xs) up =
    let after : (k : ℕ) → suc k + 1 ≡ suc (k + 1) = λ k. omega arith in
    let rest : AreRising (y ∷ xs) = climbing (y ∷ xs)
    (λ k d lt. subst (λ n. number (slice_index_or (y ∷ xs) k d) < number (slice_index_or (x ∷ y ∷ xs) n d)) (after k) (up (suc k) d (omega (arith, lt)))) in
    let first : number x < number y = up 0 x (omega arith) in
    ((first, further (number x) (number y) xs first rest.0), rest)

below : (a b : ℕ) → true ≡ nat_lt a b → a < b
below a b e = grind (arith, nat_tests)

not_below : (a b : ℕ) → false ≡ nat_lt a b → a < b → ⊥
not_below a b e lt = grind (arith, nat_tests)

climbs : (xs : List FileView) → AreRising xs → (k : ℕ) (d : FileView) → k + 1 < length xs →
    number (slice_index_or xs k d) < number (slice_index_or xs (k + 1) d)
climbs [] up k d lt = absurd (omega (arith, lt))
climbs (x ∷ []) up k d lt = absurd (omega (arith, lt))
climbs (x ∷ y ∷ xs) up zero d lt = up.0.0
climbs (x ∷ y ∷ xs) up (suc k) d lt =
    let after : suc (k + 1) ≡ suc k + 1 = omega arith in
    subst (λ n. number (slice_index_or (y ∷ xs) k d) < number (slice_index_or (x ∷ y ∷ xs) n d)) after (climbs (y ∷ xs) up.1 k d (omega (arith, lt)))

pub told_rising : (xs : List FileView) (told : Bool) → IsAllAdjacentAnswer (λ x y b. b ≡ nat_lt (number x) (number y)) xs told → IsTrue told ↔ AreRising xs
told_rising xs true each = (λ _. climbing xs (λ k d lt. below _ _ (each k d lt)), λ _. refl)
told_rising [] false each = absurd (omega (arith, each.1))
told_rising (x ∷ xs) false each = (λ e. absurd (true≢false (sym e)), λ up. absurd (not_below _ _ (each.2 x) (climbs (x ∷ xs) up each.0 x each.1)))

-- ---- what a sort and a thinning leave

pub in_order : (files sorted kept : List FileView) → IsNonDecreasingBy number sorted → kept ≡ dedup same_number sorted → AreRising kept
in_order files sorted kept up e = subst AreRising (sym e) (rising sorted up)

pub from_files : (files sorted kept : List FileView) → IsPermutation files sorted → kept ≡ dedup same_number sorted → (view : FileView) → Contains kept view →
    Contains files view
from_files files sorted kept moved e view there =
    Contains-permutation sorted files view (IsPermutation-sym files sorted moved)
    (Contains-from_dedup same_number sorted view (subst (λ xs. Contains xs view) e there))

numbered : (view : FileView) (kept : List FileView) → Any (λ y. same_number view y ≡ true) kept → Any (λ y. y.row.id ≡ view.row.id) kept
numbered view kept any = (any.0, any.1, any.2, any.3, sym (eqb-true (number view) (number any.1) any.4))

pub all_files : (files sorted kept : List FileView) → IsPermutation files sorted → kept ≡ dedup same_number sorted → (view : FileView) → Contains files view →
    Any (λ y. y.row.id ≡ view.row.id) kept
all_files files sorted kept moved e view there =
    numbered view kept (subst (Any (λ y. same_number view y ≡ true)) (sym e)
    (Any-dedup same_laws sorted view (Contains-permutation files sorted view moved there)))
