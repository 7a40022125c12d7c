use Rattle.permit_policy.proofs.Fitting.{Leaves}
use Rattle.permit_policy.proofs.patterns.patterns.Given as goal

abbrev pub invariant-loop-number : goal.invariant-loop-number
invariant-loop-number l = Leaves l.fn.mask l.number l.left l.patterns.items
