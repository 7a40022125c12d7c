use Rattle.std.proofs.Common.{◌≡◌, ◌<◌, true}
use Rattle.permit_base.specs.declared.words.Relations.{Relations}
use Rattle.permit_model.specs.Opened.{Cell}
use Rattle.permit_policy.specs.Masks.{cell_number, may}
use Rattle.permit_policy.proofs.access.is_full.Given as goal

abbrev pub invariant-loop-number : goal.invariant-loop-number
invariant-loop-number l = (cell : Cell) (set : Relations) → cell_number cell < l.number → may l.masks cell set ≡ true
