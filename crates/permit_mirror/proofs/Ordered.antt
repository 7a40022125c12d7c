-- Pairs in their order, and the numbers under one key.
use Rattle.std.proofs.Common.{◌≡◌, ◌<◌, ◌≤◌, ℕ, ◌+◌, ◌==◌, Bool, true, false, cond, List, [], ◌∷◌, map, filter, refl, sym, ◌∙◌, ap, arith, inl, inr}
use Rattle.std.specs.Prelude.{◌⊎◌, ◌&&◌, ◌||◌, not, nat_le, nat_lt}
use Rattle.std.specs.List.{AllByRecursion, list_any}
use Rattle.std.specs.List.Sorted.{IsStrictlySortedBy}
use Rattle.std.specs.Borrow.{Bor}
use Rattle.std.specs.BTreeMap.{is_at}
use Rattle.std.specs.BTreeMap.Range.{range_contains}
use Rattle.std.specs.Ordering.{ordering_then, nat_cmp, is_eq, is_le}
use Rattle.std.specs.Cmp.{tied_then}
use Rattle.std.specs.declared.cmp.Ordering.{Ordering}
use Rattle.std.specs.declared.cmp.Ordering.TheVariants.{Less, Equal, Greater}
use Rattle.std.specs.declared.ops.Bound.TheVariants.{Included, Excluded}
use Rattle.std.proofs.lemmas.Bool.{eqb-true}
use Rattle.std.proofs.lemmas.Bool.Decides.{nat_tests}
use Rattle.std.proofs.lemmas.Map.Keys.{sorted_head, sorted_tail}
use Rattle.permit_mirror.specs.Pairs.{pair_cmp, RiseFrom}

equal_by : (lt eq : Bool) (x y : ℕ) → (x == y) ≡ eq → is_eq (cond lt Less (cond eq Equal Greater)) ≡ true → x ≡ y
equal_by true eq x y e h = cc
equal_by false true x y e h = eqb-true x y e
equal_by false false x y e h = cc

equal_told : (x y : ℕ) → is_eq (nat_cmp x y) ≡ true → x ≡ y
equal_told x y h = equal_by (nat_lt x y) (x == y) x y refl h

is_eq_both : (a b : Ordering) → is_eq (ordering_then a b) ≡ true → (is_eq a ≡ true) × (is_eq b ≡ true)
is_eq_both Less b h = cc
is_eq_both Equal b h = (refl, h)
is_eq_both Greater b h = cc

-- a pair found is the one that is looked for
pub same_pair : (p q : ℕ × ℕ) → is_at (pair_cmp p) q ≡ true → (p.0 ≡ q.0) × (p.1 ≡ q.1)
same_pair p q h =
    let both = is_eq_both (nat_cmp p.0 q.0) (nat_cmp p.1 q.1) h in
    (equal_told p.0 q.0 both.0, equal_told p.1 q.1 both.1)

either_added : (p q : ℕ × ℕ) (b old : Bool) → is_at (pair_cmp p) q ≡ b → cond b true old ≡ true → (old ≡ true) ⊎ ((q.0 ≡ p.0) × (q.1 ≡ p.1))
either_added p q true old at h =
    let same = same_pair p q at in
    inr (sym same.0, sym same.1)
either_added p q false old at h = inl h

-- a pair that is there after one was added was there, or is the one
pub was_or_added : (p q : ℕ × ℕ) (old new : Bool) → new ≡ cond (is_at (pair_cmp p) q) true old → new ≡ true → (old ≡ true) ⊎ ((q.0 ≡ p.0) × (q.1 ≡ p.1))
was_or_added p q old new e h = either_added p q (is_at (pair_cmp p) q) old refl (sym e ∙ h)

stays_by : (b old new : Bool) → new ≡ cond b true old → old ≡ true → new ≡ true
stays_by true old new e h = e
stays_by false old new e h = e ∙ h

-- a pair that was there stays
pub stays : (p q : ℕ × ℕ) (old new : Bool) → new ≡ cond (is_at (pair_cmp p) q) true old → old ≡ true → new ≡ true
stays p q old new e h = stays_by (is_at (pair_cmp p) q) old new e h

-- ---- the numbers under one key

zero_by : (lt eq : Bool) (b : ℕ) → nat_lt 0 b ≡ lt → (0 == b) ≡ eq → is_le (cond lt Less (cond eq Equal Greater)) ≡ true
zero_by true eq b l e = refl
zero_by false true b l e = refl
zero_by false false b l e = grind (arith, nat_tests)

le_zero : (b : ℕ) → is_le (nat_cmp 0 b) ≡ true
le_zero b = zero_by (nat_lt 0 b) (0 == b) b refl refl

le_by : (lt eq : Bool) (x a b : ℕ) → nat_lt x a ≡ lt → (x == a) ≡ eq → is_le (ordering_then (cond lt Less (cond eq Equal Greater)) (nat_cmp 0 b)) ≡ nat_le x a
le_by true eq x a b l e = grind (arith, nat_tests)
le_by false true x a b l e = le_zero b ∙ grind (arith, nat_tests)
le_by false false x a b l e = grind (arith, nat_tests)

-- the first pair of a key is below or at those of no lesser keys
le_told : (x a b : ℕ) → is_le (pair_cmp (x, 0) (a, b)) ≡ nat_le x a
le_told x a b = le_by (nat_lt x a) (x == a) x a b refl refl

between_keys : (key a : ℕ) → (nat_le key a && not (nat_le (key + 1) a)) ≡ (key == a)
between_keys key a = grind (arith, nat_tests)

-- whether the pair is between the first of its key and the first of the next
abbrev pub is_under : ℕ → ℕ × ℕ → Bool
is_under key q = range_contains pair_cmp (Included (key, 0)) (Excluded (key + 1, 0)) q

under_told : (key : ℕ) (q : ℕ × ℕ) → is_under key q ≡ (key == q.0)
under_told key q =
    ap (λ b. b && not (is_le (pair_cmp (key + 1, 0) q))) (le_told key q.0 q.1)
    ∙ ap (λ b. nat_le key q.0 && not b) (le_told (key + 1) q.0 q.1)
    ∙ between_keys key q.0

-- the numbers under the key
abbrev pub numbers_under : ℕ → List (ℕ × ℕ) → List ℕ
numbers_under key pairs = map (λ p. p.1) (filter (is_under key) pairs)

-- ---- which numbers

eq_by : (lt eq : Bool) (x y : ℕ) → nat_lt x y ≡ lt → (x == y) ≡ eq → is_eq (cond lt Less (cond eq Equal Greater)) ≡ (x == y)
eq_by true eq x y l e = grind (arith, nat_tests)
eq_by false true x y l e = sym e
eq_by false false x y l e = sym e

eq_as_test : (x y : ℕ) → is_eq (nat_cmp x y) ≡ (x == y)
eq_as_test x y = eq_by (nat_lt x y) (x == y) x y refl refl

turned : (x y : ℕ) → (x == y) ≡ (y == x)
turned x y = grind (arith, nat_tests)

pair_told : (key number : ℕ) (q : ℕ × ℕ) → is_at (pair_cmp (key, number)) q ≡ ((key == q.0) && (q.1 == number))
pair_told key number q =
    sym (tied_then (nat_cmp key q.0) (nat_cmp number q.1)) ∙ ap (λ b. b && is_eq (nat_cmp number q.1)) (eq_as_test key q.0)
    ∙ ap (λ b. (key == q.0) && b) (eq_as_test number q.1 ∙ turned number q.1)

either_under : (number : ℕ) (q : ℕ × ℕ) (k : Bool) (rest : List (ℕ × ℕ)) (others : Bool) → list_any (λ n. n == number) (map (λ p. p.1) rest) ≡ others
    → list_any (λ n. n == number) (map (λ p. p.1) (cond k (q ∷ rest) rest)) ≡ ((k && (q.1 == number)) || others)
either_under number q true rest others e = ap (λ b. (q.1 == number) || b) e
either_under number q false rest others e = e

-- a number is among those under the key where its pair is there
pub any_under : (key number : ℕ) (pairs : List (ℕ × ℕ)) → list_any (λ n. n == number) (numbers_under key pairs) ≡ list_any (is_at (pair_cmp (key, number))) pairs
any_under key number [] = refl
any_under key number (q ∷ pairs) =
    ap (λ b. list_any (λ n. n == number) (map (λ p. p.1) (cond b (q ∷ filter (is_under key) pairs) (filter (is_under key) pairs)))) (under_told key q)
    ∙ either_under number q (key == q.0) (filter (is_under key) pairs) (list_any (is_at (pair_cmp (key, number))) pairs) (any_under key number pairs)
    ∙ ap (λ b. b || list_any (is_at (pair_cmp (key, number))) pairs) (sym (pair_told key number q))

-- ---- their order

-- the numbers of the key are at this one or above
abbrev pub AreFrom : ℕ → ℕ → List (ℕ × ℕ) → Type 0
AreFrom key low pairs = AllByRecursion (λ (q : ℕ × ℕ). key ≡ q.0 → low ≤ q.1) pairs

less_by : (lt eq : Bool) (x y : ℕ) → nat_lt x y ≡ lt → cond lt Less (cond eq Equal Greater) ≡ Less → x < y
less_by true eq x y l h = grind (arith, nat_tests)
less_by false true x y l h = cc
less_by false false x y l h = cc

less_told : (x y : ℕ) → nat_cmp x y ≡ Less → x < y
less_told x y h = less_by (nat_lt x y) (x == y) x y refl h

second_by : (o p : Ordering) → o ≡ Equal → ordering_then o p ≡ Less → p ≡ Less
second_by Less p e h = cc
second_by Equal p e h = h
second_by Greater p e h = cc

same_by : (lt eq : Bool) (x y : ℕ) → nat_lt x y ≡ lt → (x == y) ≡ eq → x ≡ y → cond lt Less (cond eq Equal Greater) ≡ Equal
same_by true eq x y l e same = grind (arith, nat_tests)
same_by false true x y l e same = refl
same_by false false x y l e same = grind (arith, nat_tests)

same_cmp : (x y : ℕ) → x ≡ y → nat_cmp x y ≡ Equal
same_cmp x y e = same_by (nat_lt x y) (x == y) x y refl refl e

later_of : (key : ℕ) (q r : ℕ × ℕ) → key ≡ q.0 → pair_cmp q r ≡ Less → key ≡ r.0 → q.1 + 1 ≤ r.1
later_of key q r e h f =
    let second : nat_cmp q.1 r.1 ≡ Less = second_by (nat_cmp q.0 r.0) (nat_cmp q.1 r.1) (same_cmp q.0 r.0 (sym e ∙ f)) h in
    let below : q.1 < r.1 = less_told q.1 r.1 second in
    omega (arith, below)

all_later : (key : ℕ) (q : ℕ × ℕ) (pairs : List (ℕ × ℕ)) → key ≡ q.0 → AllByRecursion (λ r. pair_cmp q r ≡ Less) pairs → AreFrom key (q.1 + 1) pairs
all_later key q [] e all = tt
all_later key q (r ∷ pairs) e all = (λ f. later_of key q r e all.0 f, all_later key q pairs e all.1)

rise_by : (key low : ℕ) (q : ℕ × ℕ) (pairs : List (ℕ × ℕ)) (k : Bool) → (key == q.0) ≡ k → (key ≡ q.0 → low ≤ q.1) → AllByRecursion (λ r. pair_cmp q r ≡ Less) pairs
    → (AreFrom key (q.1 + 1) pairs → RiseFrom (q.1 + 1) (numbers_under key pairs)) → RiseFrom low (numbers_under key pairs)
    → RiseFrom low (map (λ p. p.1) (cond k (q ∷ filter (is_under key) pairs) (filter (is_under key) pairs)))
rise_by key low q pairs true at from later next same =
    let here = eqb-true key q.0 at in
    (from here, next (all_later key q pairs here later))
rise_by key low q pairs false at from later next same = same

-- the numbers under a key rise
pub under_rise : (key low : ℕ) (pairs : List (ℕ × ℕ)) → IsStrictlySortedBy pair_cmp pairs → AreFrom key low pairs → RiseFrom low (numbers_under key pairs)
under_rise key low [] sorted from = tt
under_rise key low (q ∷ pairs) sorted from =
    let tail = sorted_tail pair_cmp q pairs sorted in
    let by = rise_by key low q pairs (key == q.0) refl from.0 (sorted_head pair_cmp q pairs sorted) (under_rise key (q.1 + 1) pairs tail)
    (under_rise key low pairs tail from.1) in
    rw (under_told key q) by

pub from_zero : (key : ℕ) (pairs : List (ℕ × ℕ)) → AreFrom key 0 pairs
from_zero key [] = tt
from_zero key (q ∷ pairs) = (λ _. omega arith, from_zero key pairs)

-- the seconds of pairs that are lent
pub seconds : (pairs : List (Bor (ℕ × ℕ))) → map (λ p. p.now.1) pairs ≡ map (λ p. p.1) (map (λ p. p.now) pairs)
seconds [] = refl
seconds (p ∷ pairs) = ap (λ numbers. p.now.1 ∷ numbers) (seconds pairs)
