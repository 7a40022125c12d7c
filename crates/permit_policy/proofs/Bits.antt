-- One bit of a mask.
use Rattle.std.proofs.Common.{◌≡◌, ap, ◌∙◌, arith, Bool, true, false, not, ◌&&◌, ◌||◌, ◌==◌, ℕ, ◌+◌, ◌-◌, ◌^◌, ◌<◌, min, max, bit_and, bit_or}
use Rattle.std.proofs.Common.{w64}
use Rattle.std.specs.Int.{bit_at, bit_not}
use Rattle.std.proofs.lemmas.Nat.Bits.{bit_at-lt, bit_at-zero, bit_at_and, bit_at_or, bit_at_not, bit_at_ones}
use Rattle.permit_base.specs.declared.words.Relations.{Relations}
use Rattle.permit_policy.specs.Masks.{only_where, set_number, has_set}

-- ---- numbers below 2 as truth values

min_test : (x y : ℕ) → x < 2 → y < 2 → (min x y == 1) ≡ ((x == 1) && (y == 1))
min_test x y h k = grind arith

max_test : (x y : ℕ) → x < 2 → y < 2 → (max x y == 1) ≡ ((x == 1) || (y == 1))
max_test x y h k = grind arith

not_test : (x : ℕ) → x < 2 → ((1 - x) == 1) ≡ not (x == 1)
not_test x h = grind arith

-- ---- the number of a set

share_below : (held : Bool) (n : ℕ) → only_where held n < n + 1
share_below held n = grind arith

pub set_below : (set : Relations) → set_number set < 64
set_below set = grind (arith, share_below)

-- ---- sets in masks

pub set_in_and : (a b : ℕ) (set : Relations) → has_set (bit_and a b) set ≡ (has_set a set && has_set b set)
set_in_and a b set = grind (arith, bit_at_and, min_test, bit_at-lt)

pub set_in_or : (a b : ℕ) (set : Relations) → has_set (bit_or a b) set ≡ (has_set a set || has_set b set)
set_in_or a b set = grind (arith, bit_at_or, max_test, bit_at-lt)

pub set_in_not : (a : ℕ) (set : Relations) → a < 2 ^ 64 → has_set (bit_not w64 a) set ≡ not (has_set a set)
set_in_not a set h =
    let k = set_number set in
    ap (λ n. n == 1) (bit_at_not w64 a k h (set_below set)) ∙ not_test (bit_at a k) (bit_at-lt a k)

pub set_in_none : (set : Relations) → has_set 0 set ≡ false
set_in_none set = ap (λ n. n == 1) (bit_at-zero (set_number set))

pub set_in_every : (set : Relations) → has_set (2 ^ 64 - 1) set ≡ true
set_in_every set = ap (λ n. n == 1) (bit_at_ones 64 (set_number set) (set_below set))
