use Rattle.std.proofs.Common.{ap, ◌∙◌}
use Rattle.permit_policy.specs.Patterns.{asks}
use Rattle.permit_policy.proofs.Fitting.{six_in}
use Rattle.permit_policy.proofs.patterns.Pattern.sets.Goals as goal

pub returns : goal.returns
returns c = λ set.
    let p = c.args.self.now in
    six_in set _ _ _ _ _ _ _ _ _ _ _ _
    (c.asked.ensures set ∙ ap (asks p.with.applicant p.without.applicant) (c.sets_with.ensures set))
    (c.asked-2.ensures set ∙ ap (asks p.with.contractor p.without.contractor) (c.sets_with-2.ensures set))
    (c.asked-3.ensures set ∙ ap (asks p.with.owner p.without.owner) (c.sets_with-3.ensures set))
    (c.asked-4.ensures set ∙ ap (asks p.with.assigned_reviewer p.without.assigned_reviewer) (c.sets_with-4.ensures set))
    (c.asked-5.ensures set ∙ ap (asks p.with.assigned_inspector p.without.assigned_inspector) (c.sets_with-5.ensures set))
    (c.asked-6.ensures set ∙ ap (asks p.with.conflict p.without.conflict) (c.sets_with-6.ensures set))
