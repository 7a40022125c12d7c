use Rattle.std.proofs.Common.{◌≡◌, length, replicate, false}
use Rattle.permit_policy.specs.Marks.{Marks}
use Rattle.permit_policy.proofs.MarkSteps.{ByRolesBefore}
use Rattle.permit_policy.proofs.dead.live_rules.Given as goal

abbrev pub invariant-loop-role : goal.invariant-loop-role
invariant-loop-role l = record {
  count : length l.live.items ≡ length l.rules;
  marks : Marks l.rules (ByRolesBefore l.role-index) (replicate (length l.rules) false) l.live.items;
}
