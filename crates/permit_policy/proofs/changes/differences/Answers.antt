use Rattle.std.proofs.Common.{map}
use Rattle.permit_base.specs.Words.{all_actions}
use Rattle.permit_base.specs.declared.words.Action.{Action}
use Rattle.permit_base.specs.declared.words.Role.{Role}
use Rattle.permit_base.specs.declared.words.Role.TheVariants.{Public}
use Rattle.permit_policy.proofs.Changing.{roles_next}
use Rattle.permit_policy.proofs.changes.differences.Goals as goal

pub loop-role-preserved : goal.loop-role-preserved
loop-role-preserved c = record {
  order = roles_next (λ (role : Role). map (λ (action : Action). (role, action)) all_actions) c.all-role-items.result.now c.loop-role.role-index Public _ _ _
      c.loop-role-test.true c.in_ok-push_changes.ensures.order c.loop-role.invariant.order;
  each = c.in_ok-push_changes.ensures.each c.loop-role.invariant.each;
}
