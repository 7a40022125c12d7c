use Rattle.std.proofs.Common.{◌≡◌, arith, ap, subst, ◌∙◌, sym, refl}
use Rattle.std.proofs.lemmas.Bool.{leb-false, lt-ltb}
use Rattle.permit_base.specs.Limits.{most_papers}
use Rattle.permit_core.specs.RowTests.{row_tests}
use Rattle.permit_core.specs.Naming.{named_paper}
use Rattle.permit_core.specs.RowAfter.{row_after, row_paper_days}
use Rattle.permit_model.specs.SoundState.{IsSoundState}
use Rattle.permit_model.specs.Work.{paper_sort}
use Rattle.permit_office.specs.Effects.{papers_with}
use Rattle.permit_model.proofs.Fronts.{all_pass}
use Rattle.std.specs.Prelude.{Ok}
use Rattle.permit_base.specs.declared.request.Request.TheVariants.{OnFile}
use Rattle.permit_model.specs.Tables.{State, papers_made, tables}
use Rattle.permit_model.specs.Machine.{entry_of, paper_number}
use Rattle.permit_office.proofs.Carrying.{admitted, refuses}
use Rattle.permit_office.proofs.Deciding.{number_is}
use Rattle.permit_office.proofs.Entered.{command_more, row_suits, papers_counted, papers_room}
use Rattle.permit_office.proofs.RowPapers.{room}
use Rattle.permit_office.proofs.SoundRow.{IsServed, few_notices, row_sound, row_made, row_fits}
use Rattle.permit_office.proofs.commands.perform.Goals as goal

pub returns-in-Err-clause-model : goal.returns-in-Err-clause-model
returns-in-Err-clause-model g c = λ doubt h is held one there state owner time party.
    let a = c.args in
    let people = c.in_ok-people.ensures.people doubt h is held one there state owner in
    rw (c.in-Err.ensures.model h a.file a.caller one is there state people) (refuses _ _ _ _ c.refused.ensures)

pub returns-clause-model : goal.returns-clause-model
returns-clause-model g c = λ doubt h is held one there state owner time party.
    let late : (g.S.Store.view c.people_about.new.store).doubt ≡ 0 = omega arith in
    let a = c.args in
    let people = c.in_ok-people.ensures.people late h is held one there state owner in
    let none = c.in_default.ensures.model h a.file a.caller one is there state people in
    let after = c.apply.ensures.model h a.file one is there time state none in
    let number = c.paper_number-number.ensures.model one state in
    let papers = c.effect_of-effect.ensures.papers a.file c.apply.new.self.papers a.day (papers_made h h)
    ∙ ap (λ (s : State). papers_with a.file c.apply.new.self.papers a.day a.caller (row_paper_days s a.command.now) a.command.now
    (paper_sort a.command.now) (named_paper a.command.now) (papers_made h h)) state in
    let more = command_more h a.day a.caller a.file a.command.now one is there c.apply.new.self after _ papers in
    let counted = ap (λ (s : State). s.papers) after ∙ papers_counted _ one.acts in
    let effect = c.effect_of-effect.ensures.suits (tables h) c.apply.new.self (rw state counted) party
    (λ makes. rw state (papers_room h a.day a.caller a.file a.command.now one there none makes)) in
    let suits = row_suits h a.file one c.apply.new.self c.effect_of-effect.result there (ap (λ (s : State). s.parcel) after)
    (ap (λ (s : State). s.applicant) after) (ap (λ (s : State). s.edition) after) (rw state at effect) in
    let number_said = number_is (Ok c.paper_number-number.result) c.paper_number-number.result _ number refl in
    admitted c.args.day h (entry_of h a.day a.caller (OnFile a.file a.command.now)) a.caller c.paper_number-number.result _ _ (sym none)
    (number_said ∙ ap (paper_number a.command.now) (sym there)) (record { suits = suits; in_time = time }) more

pub returns-clause-sound : goal.returns-clause-sound
returns-clause-sound g c = λ doubt t held sound there may.
    let late : (g.S.Store.view c.people_about.new.store).doubt ≡ 0 = omega arith in
    let a = c.args in
    let people = c.in_ok-people.people in
    let passed = all_pass (row_tests a.day a.state.now people a.command.now) c.in_default.ensures.row in
    let after : c.apply.new.self ≡ row_after a.day a.command.now a.state.now = c.apply.ensures.row (few_notices t a.file a.state.now sound there) in
    let served : IsServed t a.file a.caller a.day a.command.now a.state.now people = record {
      sound = sound;
      in_time = may.in_time;
      early = may.early;
      by = may.there;
      named = c.in_ok-people.ensures.role late t held;
      noted = c.in_ok-people.ensures.notice late t held;
      within = c.command_within.ensures;
      passed = passed;
      state = subst IsSoundState after c.state_within.ensures;
    } in
    let papers = c.effect_of-effect.ensures.papers a.file c.apply.new.self.papers a.day t.papers in
    let whole = row_made t a.file a.caller a.day a.command.now a.state.now c.apply.new.self c.effect_of-effect.result after papers
    (row_sound t a.file a.caller a.day a.command.now a.state.now people there served) in
    let effect = c.effect_of-effect.ensures.suits t c.apply.new.self (ap (λ (s : State). s.papers) after) may.there
    (λ makes. lt-ltb a.state.now.papers most_papers
    (leb-false most_papers a.state.now.papers (room a.day a.command.now a.state.now people passed makes))) in
    let fits = row_fits t a.file a.state.now c.apply.new.self c.effect_of-effect.result there (ap (λ (s : State). s.parcel) after)
    (ap (λ (s : State). s.applicant) after) (ap (λ (s : State). s.edition) after) effect in
    (record { suits = fits; in_time = may.in_time }, whole)
