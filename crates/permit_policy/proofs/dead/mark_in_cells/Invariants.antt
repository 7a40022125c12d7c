use Rattle.permit_base.specs.declared.words.Role.{Role}
use Rattle.permit_base.specs.declared.words.Action.{Action}
use Rattle.permit_policy.specs.Hits.{AreHits}
use Rattle.permit_policy.specs.Marks.{Marks}
use Rattle.permit_policy.proofs.MarkSteps.{InCellsBefore}
use Rattle.permit_policy.proofs.dead.mark_in_cells.Given as goal

abbrev pub invariant-loop-number : goal.invariant-loop-number
invariant-loop-number l =
    (role : Role) (action : Action) → AreHits role action l.rules l.hits → Marks l.rules (InCellsBefore role action l.number) l.fn.live l.live
