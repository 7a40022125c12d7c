use Rattle.std.proofs.Common.{◌≡◌, arith, ◌∙◌, sym}
use Rattle.permit_base.specs.declared.request.Request.TheVariants.{OnFile}
use Rattle.permit_model.specs.Files.{CaseFile}
use Rattle.permit_model.specs.Tables.{tables}
use Rattle.permit_office.proofs.Finding.{IsStateOf, state_found}
use Rattle.permit_office.proofs.Unjudged.{file_missing, file_there}
use Rattle.permit_office.proofs.Carrying.{refuses}
use Rattle.permit_office.proofs.accepting.accept_on_file.Goals as goal

pub returns-in_default-clause-model : goal.returns-in_default-clause-model
returns-in_default-clause-model g c = λ doubt h is held time party.
    let a = c.args in
    let none = sym c.in_default.is ∙ c.in_ok-state.ensures.found doubt (tables h) held in
    rw (file_missing h a.day a.caller a.file (OnFile a.file a.command.now) none) (refuses _ _ _ _ c.refused.ensures)

pub returns-clause-model : goal.returns-clause-model
returns-clause-model g c = λ doubt h is held time party.
    let late : (g.S.Store.view c.state.new.self).doubt ≡ 0 = omega arith in
    let mid : (g.S.Store.view c.owner_on.new.store).doubt ≡ 0 = omega arith in
    let a = c.args in
    let f : IsStateOf h a.file c.in-Some.state = state_found h a.file c.in-Some.state (sym c.in-Some.is ∙ c.in_ok-state.ensures.found late (tables h) held) in
    let file : CaseFile = f.file in
    let kept = c.state.ensures.read.kept (tables h) held in
    let owner = c.in_ok-owner.ensures.owner mid h file kept f.state_is in
    rw (file_there h a.day a.caller a.file (OnFile a.file a.command.now) file f.found)
    (c.perform.ensures.model doubt h is (c.owner_on.ensures.read.kept (tables h) kept) file f.found f.state_is owner time party)

pub returns-clause-sound : goal.returns-clause-sound
returns-clause-sound g c = λ doubt t held sound may.
    let late : (g.S.Store.view c.state.new.self).doubt ≡ 0 = omega arith in
    let there = sym (sym c.in-Some.is ∙ c.in_ok-state.ensures.found late t held) in
    c.perform.ensures.sound doubt t (c.owner_on.ensures.read.kept t (c.state.ensures.read.kept t held)) sound there may
