use Rattle.std.proofs.Common.{arith}
use Rattle.std.proofs.Math.ListN.{length-replicate}
use Rattle.permit_policy.proofs.MarkSteps.{ByRolesBefore, marks_none, marks_then, marks_of, next_role, by_all_roles, taken}
use Rattle.permit_policy.proofs.dead.live_rules.Goals as goal

pub loop-role-init : goal.loop-role-init
loop-role-init c = grind (arith, length-replicate, marks_none)

pub loop-role-preserved : goal.loop-role-preserved
loop-role-preserved c = grind (arith, taken, marks_then, ByRolesBefore, next_role)

pub returns : goal.returns
returns c = grind (arith, marks_of, ByRolesBefore, by_all_roles)
