use Rattle.std.proofs.Common.{◌≡◌, map}
use Rattle.permit_mirror.proofs.pairs.Pairs.numbers.Given as goal

abbrev pub invariant-loop-pair : goal.invariant-loop-pair
invariant-loop-pair l = l.numbers.items ≡ map (λ p. p.now.1) l.yielded
