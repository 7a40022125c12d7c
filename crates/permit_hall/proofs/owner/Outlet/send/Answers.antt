use Rattle.std.proofs.Common.{ap, ◌∙◌}
use Rattle.permit_hall.proofs.LaneMoves.{sends, nothing}
use Rattle.permit_hall.proofs.owner.Outlet.send.Goals as goal

pub send_as-requires-clause-rule : goal.send_as-requires-clause-rule
send_as-requires-clause-rule g c = (sends _ _ _ _ (ap (λ v. v.sends) (c.loop.invariant.1 ∙ c.requires.note)), nothing _ _)
