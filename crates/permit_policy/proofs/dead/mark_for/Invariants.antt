use Rattle.permit_policy.specs.Marks.{Marks}
use Rattle.permit_policy.proofs.MarkSteps.{ByActionsBefore}
use Rattle.permit_policy.proofs.dead.mark_for.Given as goal

abbrev pub invariant-loop-action : goal.invariant-loop-action
invariant-loop-action l = Marks l.rules (ByActionsBefore l.role l.action-index) l.fn.live l.live
