use Rattle.permit_policy.specs.Shares.{decided_for}
use Rattle.permit_policy.proofs.Changing.{Covers}
use Rattle.permit_policy.proofs.changes.groups_of.Given as goal

abbrev pub invariant-loop-number : goal.invariant-loop-number
invariant-loop-number l = Covers (decided_for l.rules l.fn.role l.fn.action) (decided_for l.others l.fn.role l.fn.action) l.number l.groups.items
