use Rattle.std.proofs.Common.{◌≡◌, ap, ◌∙◌, sym, true, arith}
use Rattle.permit_model.specs.Caller.{is_party}
use Rattle.permit_model.specs.Tables.{Desk, tables}
use Rattle.permit_office.specs.Accepting.{request_of}
use Rattle.permit_office.proofs.Unjudged.{known_in_time}
use Rattle.permit_office.proofs.accepting.judge.Goals as goal

pub returns-clause-model : goal.returns-clause-model
returns-clause-model g c = λ doubt h is held token may.
    let late : (g.S.Store.view c.is_party.new.store).doubt ≡ 0 = omega arith in
    let later : (g.S.Store.view c.desk.new.self).doubt ≡ 0 = omega arith in
    let a = c.args in
    let there = c.in_ok-is_party.ensures.there late h held in
    let test = c.if-not-branch.false in
    let known : true ≡ is_party h a.caller = cc in
    let kept = c.is_party.ensures.read.kept (tables h) held in
    let desk = c.in_ok-desk.ensures.found later (tables h) kept in
    let last = ap (λ (d : Desk). d.last) (c.desk-2.view_is ∙ desk) in
    rw (known_in_time h a.day a.caller (request_of token a.act.now) known (omega arith))
    (c.accept_known.ensures.model doubt h is (c.desk.ensures.read.kept (tables h) kept) token may desk (omega arith) (sym known))
