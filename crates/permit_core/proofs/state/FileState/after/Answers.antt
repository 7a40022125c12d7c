-- The fields after the command are those of the row after it; a sound row stays sound.
use Rattle.std.proofs.Common.{◌≡◌, ◌≤◌, ◌<◌, true, sym, ◌∙◌, ap, subst, arith}
use Rattle.permit_model.specs.Tables.{State}
use Rattle.permit_model.specs.Work.{makes_paper}
use Rattle.permit_model.specs.SoundState.{IsSoundState}
use Rattle.permit_core.specs.contracts.restore.StateFields.{the_view}
use Rattle.permit_core.specs.RowTests.{IsAdmitted}
use Rattle.permit_core.specs.RowAfter.{row_after, with_most_notices}
use Rattle.permit_core.proofs.RowSounds.{sound_after, few_done, grant_fits, notice_fits, room}
use Rattle.permit_core.proofs.state.FileState.after.Goals as goal

pub invariant_of-result : goal.invariant_of-result
invariant_of-result c =
    let before : State = the_view c.before-2.inside in
    let same : before ≡ c.args.self.now = c.before-2.view_is ∙ c.self.view_is in
    let sound : IsSoundState before = subst IsSoundState (sym c.before-2.view_is) c.self.invariant in
    let admitted : IsAdmitted c.args.day before c.args.command.now = subst (λ s. IsAdmitted c.args.day s c.args.command.now) (sym same) c.requires.admitted in
    rw (
      c.stage_after.ensures,
      c.deadline_after.ensures (grant_fits c.args.day c.args.command.now before admitted),
      c.done_after.ensures (few_done before sound),
      c.request_after.ensures,
      c.requested_after.ensures,
      c.stopped_after.ensures,
    )
    (sound_after c.args.day c.args.command.now before c.notices_after.result c.papers_after.result sound admitted c.notices_after.ensures.fits)

pub returns-clause-row : goal.returns-clause-row
returns-clause-row c few =
    let before : State = the_view c.before-2.inside in
    let same : before ≡ c.args.self.now = c.before-2.view_is ∙ c.self.view_is in
    let sound : IsSoundState before = subst IsSoundState (sym c.before-2.view_is) c.self.invariant in
    let admitted : IsAdmitted c.args.day before c.args.command.now = subst (λ s. IsAdmitted c.args.day s c.args.command.now) (sym same) c.requires.admitted in
    let still_few : before.notices ≤ before.papers = subst (λ (s : State). s.notices ≤ s.papers) (sym same) few in
    let room_left : makes_paper c.args.command.now ≡ true → before.papers < 65535 = λ e. omega (arith, room c.args.day c.args.command.now before admitted e) in
    rw (
      c.contractor_after.ensures,
      c.reviewer_after.ensures,
      c.inspector_after.ensures,
      c.stage_after.ensures,
      c.deadline_after.ensures (grant_fits c.args.day c.args.command.now before admitted),
      c.done_after.ensures (few_done before sound),
      c.request_after.ensures,
      c.requested_after.ensures,
      c.ask_after.ensures,
      c.stopped_after.ensures,
      c.notices_after.ensures.fits (notice_fits c.args.day c.args.command.now before admitted still_few),
      c.papers_after.ensures room_left,
      c.temporary_after.ensures,
    ) (ap (row_after c.args.day c.args.command.now) same)

pub returns-clause-most : goal.returns-clause-most
returns-clause-most c =
    let before : State = the_view c.before-2.inside in
    let same : before ≡ c.args.self.now = c.before-2.view_is ∙ c.self.view_is in
    let sound : IsSoundState before = subst IsSoundState (sym c.before-2.view_is) c.self.invariant in
    let admitted : IsAdmitted c.args.day before c.args.command.now = subst (λ s. IsAdmitted c.args.day s c.args.command.now) (sym same) c.requires.admitted in
    let room_left : makes_paper c.args.command.now ≡ true → before.papers < 65535 = λ e. omega (arith, room c.args.day c.args.command.now before admitted e) in
    rw (
      c.contractor_after.ensures,
      c.reviewer_after.ensures,
      c.inspector_after.ensures,
      c.stage_after.ensures,
      c.deadline_after.ensures (grant_fits c.args.day c.args.command.now before admitted),
      c.done_after.ensures (few_done before sound),
      c.request_after.ensures,
      c.requested_after.ensures,
      c.ask_after.ensures,
      c.stopped_after.ensures,
      c.notices_after.ensures.most,
      c.papers_after.ensures room_left,
      c.temporary_after.ensures,
    ) (ap (λ (s : State). with_most_notices (row_after c.args.day c.args.command.now s)) same)
