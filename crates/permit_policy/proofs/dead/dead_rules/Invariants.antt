use Rattle.permit_policy.proofs.DeadNames.{Named}
use Rattle.permit_policy.proofs.dead.dead_rules.Given as goal

abbrev pub invariant-loop-place : goal.invariant-loop-place
invariant-loop-place l = Named l.rules l.place l.names.items
