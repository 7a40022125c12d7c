-- Regions of one cell, and two regions as one.
use Rattle.std.proofs.Common.{◌≡◌, ◌≢◌, ◌⊎◌, inl, inr, refl, ap, sym, ◌∙◌, arith, Bool, true, false, ◌&&◌, ◌||◌, ◌==◌, ℕ, ◌+◌, ◌*◌, ◌/◌, ◌%◌, ◌^◌, ◌<◌, max, bit_or, get_or, map, zero-add}
use Rattle.std.proofs.lemmas.List.{get_or-map}
use Rattle.std.proofs.lemmas.List.FromFn.{get_or-range_with_len}
use Rattle.std.specs.List.{range_with_len}
use Rattle.std.proofs.lemmas.Bool.Decides.{eqb_tells}
use Rattle.std.proofs.lemmas.Nat.Bits.{bit_at-lt, bit_at_or, bit_at-pow_same, bit_at-pow_other}
use Rattle.permit_base.specs.declared.words.Relations.{Relations}
use Rattle.permit_base.specs.declared.words.Stage.TheVariants as stage
use Rattle.permit_base.specs.declared.words.Timing.TheVariants as timing
use Rattle.permit_base.specs.Words.{all_stages, all_timings}
use Rattle.permit_model.specs.Codes.{stage_code, timing_code}
use Rattle.permit_model.specs.Opened.{Cell}
use Rattle.permit_policy.specs.Masks.{only_where, cell_number, set_number, has_bit, has_set}
use Rattle.permit_policy.specs.Regions.{is_within, all_but_one, joins, joined, region_of}
use Rattle.permit_policy.specs.Groups.{is_cell}
use Rattle.permit_policy.specs.declared.region.Region.{Region}
use Rattle.permit_policy.proofs.CellNumbers.{cell_back, cell_of}

-- ---- two regions as one

max_test : (x y : ℕ) → x < 2 → y < 2 → (max x y == 1) ≡ ((x == 1) || (y == 1))
max_test x y h k = grind arith

bit_in_or : (a b k : ℕ) → has_bit (bit_or a b) k ≡ (has_bit a k || has_bit b k)
bit_in_or a b k = grind (arith, bit_at_or, max_test, bit_at-lt)

same_number : (m n : ℕ) → (m == n) ≡ true → (((m == n) ≡ true) × (m ≡ n)) ⊎ (((m == n) ≡ false) × (m ≢ n)) → m ≡ n
same_number m n e h = grind arith

pub numbers_same : (m n : ℕ) → (m == n) ≡ true → m ≡ n
numbers_same m n e = same_number m n e (eqb_tells m n)

-- the bits of two numbers that are one
same_bits : (m n k : ℕ) → (m == n) ≡ true → has_bit m k ≡ has_bit n k
same_bits m n k e = ap (λ x. has_bit x k) (numbers_same m n e)

-- two products of four truth values that differ in one at most
one_product : (a b c d x y z w e f g h : Bool) → all_but_one e f g h ≡ true → (e ≡ true → a ≡ x) → (f ≡ true → b ≡ y) → (g ≡ true → c ≡ z) → (h ≡ true → d ≡ w)
    → ((a || x) && (b || y) && (c || z) && (d || w)) ≡ ((a && b && c && d) || (x && y && z && w))
one_product a b c d x y z w e f g h all p q r s = grind arith

pub within_joined : (a b : Region) (cell : Cell) (set : Relations) → joins a b ≡ true → is_within (joined a b) cell set ≡ (is_within a cell set || is_within b cell set)
within_joined a b cell set j =
    let i = set_number set in
    let k = stage_code cell.stage in
    let m = only_where cell.stopped 1 in
    let n = timing_code cell.timing in
    rw (bit_in_or a.relations b.relations i, bit_in_or a.stages b.stages k, bit_in_or a.stopped b.stopped m, bit_in_or a.timings b.timings n)
    (one_product _ _ _ _ _ _ _ _ (a.relations == b.relations) (a.stages == b.stages) (a.stopped == b.stopped) (a.timings == b.timings) j
    (same_bits a.relations b.relations i) (same_bits a.stages b.stages k) (same_bits a.stopped b.stopped m) (same_bits a.timings b.timings n))

-- ---- the region of a cell

one_by : (k j : ℕ) → (((k == j) ≡ true) × (k ≡ j)) ⊎ (((k == j) ≡ false) × (k ≢ j)) → has_bit (2 ^ k) j ≡ (k == j)
one_by k j (inl h) = ap (λ i. has_bit (2 ^ k) i) (sym h.1) ∙ ap (λ x. x == 1) (bit_at-pow_same k) ∙ sym h.0
one_by k j (inr h) = ap (λ x. x == 1) (bit_at-pow_other k j (λ e. h.1 (sym e))) ∙ sym h.0

one_bit : (k j : ℕ) → has_bit (2 ^ k) j ≡ (k == j)
one_bit k j = one_by k j (eqb_tells k j)

timing_below : (t : ℕ) (cell : Cell) → timing_code cell.timing ≡ t → t < 4
timing_below t cell e = grind arith

-- the codes of two cells, one by one and as one number
codes_same : (s t x y : ℕ) (b c : Bool) → t < 4 → y < 4
    → ((s == x) && (only_where b 1 == only_where c 1) && (t == y)) ≡ ((8 * s + only_where b 4 + t) == (8 * x + only_where c 4 + y))
codes_same s t x y true true h k = grind arith
codes_same s t x y true false h k = grind arith
codes_same s t x y false true h k = grind arith
codes_same s t x y false false h k = grind arith

swapped : (a b c d : Bool) → (a && b && c && d) ≡ ((b && c && d) && a)
swapped a b c d = grind arith

pub within_cell : (sets : ℕ) (here cell : Cell) (set : Relations) → is_within (region_of sets here) cell set ≡ (is_cell here cell && has_set sets set)
within_cell sets here cell set =
    rw (one_bit (stage_code here.stage) (stage_code cell.stage), one_bit (only_where here.stopped 1) (only_where cell.stopped 1), one_bit (timing_code here.timing) (timing_code cell.timing))
    (swapped (has_set sets set) (stage_code here.stage == stage_code cell.stage) (only_where here.stopped 1 == only_where cell.stopped 1) (timing_code here.timing == timing_code cell.timing) ∙ ap (λ b. b && has_set sets set) (codes_same (stage_code here.stage) (timing_code here.timing) (stage_code cell.stage) (timing_code cell.timing) here.stopped cell.stopped
    (timing_below _ here refl) (timing_below _ cell refl)))

-- ---- numbers of cells

stage_numbers : map stage_code all_stages ≡ range_with_len 0 14
stage_numbers = refl

timing_numbers : map timing_code all_timings ≡ range_with_len 0 4
timing_numbers = refl

numbered_stage : (k : ℕ) → k < 14 → stage_code (get_or all_stages k stage.Filed) ≡ k
numbered_stage k h = sym (get_or-map stage_code all_stages k stage.Filed 0 h) ∙ ap (λ xs. get_or xs k 0) stage_numbers ∙ get_or-range_with_len 0 14 k 0 h ∙ zero-add k

numbered_timing : (k : ℕ) → k < 4 → timing_code (get_or all_timings k timing.Untimed) ≡ k
numbered_timing k h = sym (get_or-map timing_code all_timings k timing.Untimed 0 h) ∙ ap (λ xs. get_or xs k 0) timing_numbers ∙ get_or-range_with_len 0 4 k 0 h ∙ zero-add k

parts_of : (n s t : ℕ) → s ≡ n / 8 → t ≡ n % 4 → 8 * s + only_where ((n / 4 % 2) == 1) 4 + t ≡ n
parts_of n s t e f = grind arith

eighth_below : (n : ℕ) → n < 112 → n / 8 < 14
eighth_below n h = omega arith

pub number_back : (n : ℕ) → n < 112 → cell_number (cell_of n) ≡ n
number_back n h = parts_of n _ _ (numbered_stage (n / 8) (eighth_below n h)) (numbered_timing (n % 4) (omega arith))

pub cells_same : (a b : Cell) → is_cell a b ≡ true → a ≡ b
cells_same a b e = sym (cell_back a (cell_number b) (numbers_same (cell_number a) (cell_number b) e)) ∙ cell_back b (cell_number b) refl
