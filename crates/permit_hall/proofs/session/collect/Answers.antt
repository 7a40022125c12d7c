use Rattle.std.proofs.Common.{ap, ◌∙◌}
use Rattle.permit_hall.proofs.LaneMoves.{collects, nothing}
use Rattle.permit_hall.proofs.session.collect.Goals as goal

pub recv_as-requires-clause-rule : goal.recv_as-requires-clause-rule
recv_as-requires-clause-rule g c = (collects _ _ (ap (λ v. v.gets) (c.loop.invariant.1 ∙ c.requires.session)), nothing _ _)
