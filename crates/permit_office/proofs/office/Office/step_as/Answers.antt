use Rattle.std.proofs.Common.{subst}
use Rattle.permit_base.specs.declared.refusal.Refusal.TheVariants as refusal
use Rattle.permit_office.specs.declared.reply.Reply.TheVariants as given
use Rattle.permit_office.specs.Office.{OfficeView, office_of}
use Rattle.permit_office.specs.Frames.{IsStep}
use Rattle.permit_office.proofs.Stepping.{keeps_step}
use Rattle.permit_office.proofs.office.Office.step_as.Goals as goal
use Rattle.permit_office.proofs.office.Office.step_as.Goals.{in-Ok, in-Err}

pub returns-clause-step : goal.returns-clause-step
returns-clause-step g c =
    let a = c.args in
    let s = g.S.Store.view in
    let new : OfficeView g.row.S.Denot g.row.L.Denot = office_of c.attempt.new.store c.self.inside.policy c.attempt.new.log in
    elim c.match-attempt.branch [
      | in-Ok w ↦ rw w.result-is (subst (λ (o : OfficeView g.row.S.Denot g.row.L.Denot).
          IsStep s g.L.Log a.digest.now a.request.now a.day o new w.in-Ok.reply) c.self.view_is w.in-Ok.ensures.step)
      | in-Err w ↦ rw w.result-is (subst (λ (o : OfficeView g.row.S.Denot g.row.L.Denot).
          IsStep s g.L.Log a.digest.now a.request.now a.day o new (given.Refused refusal.Store)) c.self.view_is w.in-Err.ensures.step)
    ]

pub returns-clause-sound : goal.returns-clause-sound
returns-clause-sound g c = keeps_step g.S.Store.view g.L.Log _ _ _ _ _ _ (returns-clause-step g c)
