use Rattle.std.proofs.Common.{◌≡◌, ℕ, ◌<◌, length, get_or}
use Rattle.permit_base.specs.declared.words.Relations.{Relations}
use Rattle.permit_model.specs.Opened.{Cell, allowed_by}
use Rattle.permit_policy.specs.Masks.{cell_number, has_set}
use Rattle.permit_policy.proofs.masks.compile_rules.Given as goal

-- the words so far are those of the cells so far
abbrev pub invariant-loop-number : goal.invariant-loop-number
invariant-loop-number l = record {
  count : length l.words.items ≡ l.number;
  each : (k : ℕ) → k < l.number → (cell : Cell) → cell_number cell ≡ k → (set : Relations)
      → has_set (get_or l.words.items k 0) set ≡ allowed_by l.rules l.fn.role l.fn.action cell set;
}
