use Rattle.std.proofs.Common.{rules}
use Rattle.permit_hall.proofs.LaneMoves.{begins, forks}
use Rattle.permit_hall.proofs.hall.lane.Goals as goal

pub bounded_with-requires-clause-rule : goal.bounded_with-requires-clause-rule
bounded_with-requires-clause-rule g c = begins

pub another-lane_pass-requires-clause-rule : goal.another-lane_pass-requires-clause-rule
another-lane_pass-requires-clause-rule g c = forks _ _ (search rules) (search rules)
