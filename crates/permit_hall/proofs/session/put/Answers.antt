use Rattle.std.proofs.Common.{sym, ap, ◌∙◌}
use Rattle.permit_hall.proofs.IntakeMoves.{puts, nothing}
use Rattle.permit_hall.proofs.session.put.Goals as goal

pub send_as-requires-clause-rule : goal.send_as-requires-clause-rule
send_as-requires-clause-rule g c = let same = c.loop.invariant.1 ∙ c.requires.session in
    (puts _ _ _ _ (ap (λ v. v.sends) same) (ap (λ v. v.gets) same) (ap (λ v. v.from) same ∙ ap (λ m. m.from) (sym c.loop.invariant.2)), nothing _ _)
