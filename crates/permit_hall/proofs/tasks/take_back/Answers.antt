use Rattle.std.proofs.Common.{rules, ap, ◌∙◌}
use Rattle.permit_hall.proofs.IntakeMoves as intake
use Rattle.permit_hall.proofs.LaneMoves as lane
use Rattle.permit_hall.proofs.tasks.take_back.Goals as goal

pub absorb-requires-clause-rule : goal.absorb-requires-clause-rule
absorb-requires-clause-rule g c = intake.merges _ _ _ _ (ap (λ v. v.gets) c.requires.pass.1) (ap (λ v. v.sends) c.requires.session.0.2)
    (ap (λ v. v.from) c.requires.session.0.2 ∙ c.requires.session.1)

pub absorb-requires-2-clause-rule : goal.absorb-requires-2-clause-rule
absorb-requires-2-clause-rule g c = lane.merges _ _ _ _ (ap (λ v. v.sends) c.requires.outlet.1) (ap (λ v. v.gets) c.requires.session.0.3)

pub learn_as-requires-clause-rule : goal.learn_as-requires-clause-rule
learn_as-requires-clause-rule g c = lane.totals _ _ (search rules) (search rules)
