use Rattle.std.proofs.Common.{◌≡◌, map, take}
use Rattle.permit_model.specs.HallRun.{count_of}
use Rattle.permit_hall.proofs.queues.place.Given as goal

abbrev pub invariant-loop-i : goal.invariant-loop-i
invariant-loop-i g l = count_of l.number (map (λ p. p.0) (take l.i l.pairs)) ≡ 0
