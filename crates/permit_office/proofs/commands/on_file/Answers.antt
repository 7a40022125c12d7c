use Rattle.std.proofs.Common.{◌≡◌, arith, ap, ◌∙◌, sym}
use Rattle.permit_base.specs.declared.request.Request.TheVariants.{OnFile}
use Rattle.permit_base.specs.Actions.{command_action}
use Rattle.permit_model.specs.Caller.{Party}
use Rattle.permit_model.specs.Files.{CaseFile}
use Rattle.permit_model.specs.Tables.{tables}
use Rattle.permit_model.specs.Facts.{file_facts}
use Rattle.permit_model.specs.Policy.{decision}
use Rattle.permit_office.proofs.Deciding.{denied_outcome, allowed_outcome}
use Rattle.permit_office.proofs.Finding.{IsStateOf, state_found, command_missing, command_judged}
use Rattle.permit_office.proofs.Carrying.{refuses}
use Rattle.permit_office.proofs.commands.on_file.Goals as goal

pub returns-in_default-clause-model : goal.returns-in_default-clause-model
returns-in_default-clause-model g c = λ doubt h is held time party.
    let a = c.args in
    let none = sym c.in_default.is ∙ c.in_ok-state.ensures.found doubt (tables h) held in
    rw (command_missing a.policy.now h a.day a.caller.now a.file a.command.now none) (refuses _ _ _ _ c.refused.ensures)

pub returns-in-Some-denial-clause-model : goal.returns-in-Some-denial-clause-model
returns-in-Some-denial-clause-model g c = λ doubt h is held time party.
    let late : (g.S.Store.view c.state.new.self).doubt ≡ 0 = omega arith in
    let mid : (g.S.Store.view c.owner_on.new.store).doubt ≡ 0 = omega arith in
    let a = c.args in
    let f : IsStateOf h a.file c.in-Some.state = state_found h a.file c.in-Some.state (sym c.in-Some.is ∙ c.in_ok-state.ensures.found late (tables h) held) in
    let file : CaseFile = f.file in
    let kept = c.state.ensures.read.kept (tables h) held in
    let kept_2 = c.owner_on.ensures.read.kept (tables h) kept in
    let owner = c.in_ok-owner.ensures.owner mid h file kept f.state_is in
    let facts = rw c.action.ensures at (c.in_ok-facts.ensures.facts doubt h file kept_2 f.state_is owner) in
    let denied = rw facts at (sym c.in-Some-denial.is ∙ c.denial.ensures) in
    rw (command_judged a.policy.now h a.day a.caller.now a.file a.command.now file f.found
    ∙ denied_outcome a.policy.now h a.day a.caller.now (OnFile a.file a.command.now)
    (decision a.policy.now (file_facts h a.day a.caller.now file (command_action a.command.now))) c.in-Some-denial.name denied)
    (refuses _ _ _ _ c.refused-in-Some-denial.ensures)

pub returns-clause-model : goal.returns-clause-model
returns-clause-model g c = λ doubt h is held time party.
    let late : (g.S.Store.view c.state.new.self).doubt ≡ 0 = omega arith in
    let mid : (g.S.Store.view c.owner_on.new.store).doubt ≡ 0 = omega arith in
    let later : (g.S.Store.view c.facts_on_file.new.store).doubt ≡ 0 = omega arith in
    let a = c.args in
    let f : IsStateOf h a.file c.in-Some.state = state_found h a.file c.in-Some.state (sym c.in-Some.is ∙ c.in_ok-state.ensures.found late (tables h) held) in
    let file : CaseFile = f.file in
    let kept = c.state.ensures.read.kept (tables h) held in
    let kept_2 = c.owner_on.ensures.read.kept (tables h) kept in
    let owner = c.in_ok-owner.ensures.owner mid h file kept f.state_is in
    let facts = rw c.action.ensures at (c.in_ok-facts.ensures.facts later h file kept_2 f.state_is owner) in
    let allowed = rw facts at (sym c.in_default-denial.is ∙ c.denial.ensures) in
    let caller : c.caller.inside.id ≡ a.caller.now.id = ap (λ (p : Party). p.id) c.caller.view_is in
    let done = c.perform.ensures.model doubt h is (c.facts_on_file.ensures.read.kept (tables h) kept_2) file f.found f.state_is owner time (rw caller party) in
    rw (command_judged a.policy.now h a.day a.caller.now a.file a.command.now file f.found
    ∙ allowed_outcome a.policy.now h a.day a.caller.now (OnFile a.file a.command.now)
    (decision a.policy.now (file_facts h a.day a.caller.now file (command_action a.command.now))) allowed)
    (rw caller at done)

pub returns-clause-sound : goal.returns-clause-sound
returns-clause-sound g c = λ doubt t held sound may.
    let late : (g.S.Store.view c.state.new.self).doubt ≡ 0 = omega arith in
    let caller = ap (λ (p : Party). p.id) c.caller.view_is in
    let there = sym (sym c.in-Some.is ∙ c.in_ok-state.ensures.found late t held) in
    let kept = c.facts_on_file.ensures.read.kept t (c.owner_on.ensures.read.kept t (c.state.ensures.read.kept t held)) in
    c.perform.ensures.sound doubt t kept sound there (record { there = rw caller may.there; in_time = may.in_time; early = may.early })
