-- One number more of two stores.
use Rattle.std.proofs.Common.{◌≡◌, ◌≤◌, ◌⊎◌, inl, inr, ℕ, ◌+◌, sym, ◌∙◌, subst, arith}
use Rattle.permit_replay.specs.Differing.{HaveSame, IsFirstOther}

below_or : (n k : ℕ) → k ≤ n + 1 → (k ≤ n) ⊎ (k ≡ n + 1)
below_or n k high = grind arith

pub same_more : (same : ℕ → Type 0) (n next : ℕ) → next ≡ n + 1 → HaveSame n same → same next → HaveSame next same
same_more same n next is was here k low high = by (below_or n k (omega (arith, high, is)))
  where
    by : (k ≤ n) ⊎ (k ≡ n + 1) → same k
    by (inl below) = was k low below
    by (inr top) = subst same (is ∙ sym top) here

pub first_other : (same : ℕ → Type 0) (count n next : ℕ) → next ≡ n + 1 → next ≤ count → HaveSame n same → (same next → ⊥)
    → IsFirstOther count same next
first_other same count n next is high was differ = record {
  low = omega (arith, is);
  high = high;
  before = λ k low less. was k low (omega (arith, less, is));
  here = differ;
}

pub all_same : (same : ℕ → Type 0) (count n : ℕ) → count ≤ n → HaveSame n same → HaveSame count same
all_same same count n past was k low high = was k low (omega (arith, high, past))
