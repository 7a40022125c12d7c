use Rattle.permit_hall.proofs.IntakeMoves.{begins}
use Rattle.permit_hall.proofs.hall.empty.Goals as goal

pub bounded_with-requires-clause-rule : goal.bounded_with-requires-clause-rule
bounded_with-requires-clause-rule g c = begins
