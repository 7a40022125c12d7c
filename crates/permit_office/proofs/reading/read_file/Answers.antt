use Rattle.std.proofs.Common.{◌≡◌, arith, ap, ◌∙◌, sym, refl}
use Rattle.permit_base.specs.declared.request.Request.TheVariants.{ReadFile}
use Rattle.permit_base.specs.declared.words.Action.TheVariants as action
use Rattle.permit_model.specs.Files.{CaseFile, case_file}
use Rattle.permit_model.specs.Tables.{FileRow, tables}
use Rattle.permit_model.specs.Facts.{file_facts}
use Rattle.permit_model.specs.Policy.{decision}
use Rattle.permit_office.proofs.Carrying.{refuses}
use Rattle.permit_office.proofs.Deciding.{denied_outcome}
use Rattle.permit_office.proofs.Finding.{IsFound, file_found, read_missing, read_judged, read_shown, shown_as}
use Rattle.permit_office.proofs.reading.read_file.Goals as goal

pub returns-in_default-clause-model : goal.returns-in_default-clause-model
returns-in_default-clause-model g c = λ doubt h held.
    let a = c.args in
    let none = sym c.in_default.is ∙ c.in_ok-row.ensures.found doubt (tables h) held in
    rw (read_missing a.policy.now h a.day a.caller.now a.file none) (refuses _ _ _ _ c.refused.ensures)

pub returns-in-Some-denial-clause-model : goal.returns-in-Some-denial-clause-model
returns-in-Some-denial-clause-model g c = λ doubt h held.
    let late : (g.S.Store.view c.file.new.self).doubt ≡ 0 = omega arith in
    let mid : (g.S.Store.view c.owner_on.new.store).doubt ≡ 0 = omega arith in
    let a = c.args in
    let f : IsFound h a.file c.in-Some.row = file_found h a.file c.in-Some.row (sym c.in-Some.is ∙ c.in_ok-row.ensures.found late (tables h) held) in
    let file : CaseFile = case_file h f.filing in
    let kept = c.file.ensures.read.kept (tables h) held in
    let kept_2 = c.owner_on.ensures.read.kept (tables h) kept in
    let state_is = ap (λ (r : FileRow). r.state) (c.row.view_is ∙ f.row_is) in
    let owner = c.in_ok-owner.ensures.owner mid h file kept state_is in
    let facts = c.in_ok-facts.ensures.facts doubt h file kept_2 state_is owner in
    let denied = rw facts at (sym c.in-Some-denial.is ∙ c.denial.ensures) in
    rw (read_judged a.policy.now h a.day a.caller.now a.file file f.found
    ∙ denied_outcome a.policy.now h a.day a.caller.now (ReadFile a.file)
    (decision a.policy.now (file_facts h a.day a.caller.now file action.Read)) c.in-Some-denial.name denied)
    (refuses _ _ _ _ c.refused-in-Some-denial.ensures)

pub returns-clause-model : goal.returns-clause-model
returns-clause-model g c = λ doubt h held.
    let late : (g.S.Store.view c.file.new.self).doubt ≡ 0 = omega arith in
    let mid : (g.S.Store.view c.owner_on.new.store).doubt ≡ 0 = omega arith in
    let later : (g.S.Store.view c.facts_on_file.new.store).doubt ≡ 0 = omega arith in
    let a = c.args in
    let f : IsFound h a.file c.in-Some.row = file_found h a.file c.in-Some.row (sym c.in-Some.is ∙ c.in_ok-row.ensures.found late (tables h) held) in
    let file : CaseFile = case_file h f.filing in
    let kept = c.file.ensures.read.kept (tables h) held in
    let kept_2 = c.owner_on.ensures.read.kept (tables h) kept in
    let state_is = ap (λ (r : FileRow). r.state) (c.row.view_is ∙ f.row_is) in
    let owner = c.in_ok-owner.ensures.owner mid h file kept state_is in
    let kept_3 = c.facts_on_file.ensures.read.kept (tables h) kept_2 in
    let facts = c.in_ok-facts.ensures.facts later h file kept_2 state_is owner in
    let allowed = rw facts at (sym c.in_default-denial.is ∙ c.denial.ensures) in
    let papers = c.in_ok-papers.ensures.found doubt (tables h) kept_3 in
    let state = ap (λ (r : FileRow). r.state) c.row.view_is in
    rw (read_shown a.policy.now h a.day a.caller.now a.file file f.found allowed) (
      shown_as h a.day a.file f.filing c.in-Some.row _ _ _ f.row_is f.named (rw state at c.stage-stage.ensures.row)
          (rw state at c.timing-timing.ensures.row) papers,
      refl,
    )
