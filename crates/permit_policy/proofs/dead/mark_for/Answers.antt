use Rattle.std.proofs.Common.{ap, get_or, arith}
use Rattle.permit_base.specs.declared.words.Action.TheVariants.{AddParty}
use Rattle.permit_policy.specs.Hits.{AreHits}
use Rattle.permit_policy.specs.Marks.{IsOf}
use Rattle.permit_policy.proofs.MarkSteps.{ByActionsBefore, marks_none, marks_then, marks_of, next_action, by_all_actions}
use Rattle.permit_policy.proofs.dead.mark_for.Goals as goal

pub loop-action-init : goal.loop-action-init
loop-action-init c = marks_none _ _ _ (λ facts s. let bad = s.1 in omega arith)

pub loop-action-preserved : goal.loop-action-preserved
loop-action-preserved c =
    let rules = c.args.rules.now in
    let role = c.args.role in
    let i = c.loop-action.action-index in
    let action = get_or c.all-action-items.result.now i AddParty in
    let known : AreHits role action rules c.deref.result.now = rw c.deref.ensures.value c.in_ok-hits.ensures in
    marks_then rules (ByActionsBefore role i) (IsOf role action) _ _ c.loop-action.live _ c.loop-action.invariant (c.mark_in_cells.ensures role action known)
    (next_action role i action (ap (λ xs. get_or xs i AddParty) c.all-action-items.ensures))

pub returns : goal.returns
returns c = grind (arith, marks_of, ByActionsBefore, by_all_actions)
