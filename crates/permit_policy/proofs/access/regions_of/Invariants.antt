use Rattle.permit_policy.proofs.Allowing.{AllowsBefore}
use Rattle.permit_policy.proofs.access.regions_of.Given as goal

abbrev pub invariant-loop-number : goal.invariant-loop-number
invariant-loop-number l = AllowsBefore l.masks l.unnamed l.number l.groups.items
