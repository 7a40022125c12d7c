use Rattle.std.proofs.Common.{length}
use Rattle.permit_policy.proofs.Gathering.{Gathering}
use Rattle.permit_policy.proofs.groups.gather.Given as goal

abbrev pub invariant-loop-place : goal.invariant-loop-place
invariant-loop-place l = Gathering l.fn.region l.by l.was l.fn.groups.items l.region l.groups.items

abbrev pub decreases-loop-place : goal.decreases-loop-place
decreases-loop-place l = length l.groups.items
