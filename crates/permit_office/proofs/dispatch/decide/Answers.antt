use Rattle.std.proofs.Common.{◌≡◌, ◌∙◌, sym, ap, arith}
use Rattle.std.specs.Prelude.{option_map}
use Rattle.permit_model.specs.Caller.{Party}
use Rattle.permit_model.specs.Tables.{tables}
use Rattle.permit_office.specs.Opening.{rows_opened}
use Rattle.permit_model.proofs.Histories.{found_by_number}
use Rattle.permit_office.proofs.Carrying.{of_caller, refuses}
use Rattle.permit_office.proofs.KnownCallers.{known_in, refused_as}
use Rattle.permit_office.proofs.Stepping.{stepped, caller_there, opened_known, opens_refused}
use Rattle.permit_office.proofs.dispatch.decide.Goals as goal

pub returns-in-Ok-clause-model : goal.returns-in-Ok-clause-model
returns-in-Ok-clause-model g c = λ doubt h is held.
    let a = c.args in
    let late : (g.S.Store.view c.known_caller.new.store).doubt ≡ 0 = omega arith in
    let known = known_in (tables h) a.digest.now a.day c.in-Ok.caller c.in-Ok.desk (sym c.in-Ok.is ∙ c.in_ok-caller.ensures.known late (tables h) held) in
    rw (stepped a.policy.now h a.digest.now a.request.now a.day c.in-Ok.caller known.is known.time)
    (c.decide_known.ensures.model doubt h is (c.known_caller.ensures.read.kept (tables h) held) known.same known.time
    (caller_there h a.digest.now c.in-Ok.caller known.is))

pub returns-in-Ok-clause-of : goal.returns-in-Ok-clause-of
returns-in-Ok-clause-of g c = λ doubt h is held.
    let a = c.args in
    let late : (g.S.Store.view c.known_caller.new.store).doubt ≡ 0 = omega arith in
    let known = known_in (tables h) a.digest.now a.day c.in-Ok.caller c.in-Ok.desk (sym c.in-Ok.is ∙ c.in_ok-caller.ensures.known late (tables h) held) in
    of_caller _ c.in-Ok.caller.id c.decide_known.result (ap (option_map (λ (p : Party). p.id)) (sym known.is)) c.decide_known.ensures.proper

pub returns-in-Ok-clause-sound : goal.returns-in-Ok-clause-sound
returns-in-Ok-clause-sound g c = λ doubt t held sound.
    let a = c.args in
    let late : (g.S.Store.view c.known_caller.new.store).doubt ≡ 0 = omega arith in
    let known = known_in t a.digest.now a.day c.in-Ok.caller c.in-Ok.desk (sym c.in-Ok.is ∙ c.in_ok-caller.ensures.known late t held) in
    c.decide_known.ensures.sound doubt t (c.known_caller.ensures.read.kept t held) sound known.same
    (record { there = found_by_number t.parties a.digest.now c.in-Ok.caller (sym known.is); in_time = known.time; early = omega arith })

pub returns-in-Ok-clause-opened : goal.returns-in-Ok-clause-opened
returns-in-Ok-clause-opened g c = λ doubt h is held.
    let a = c.args in
    let late : (g.S.Store.view c.known_caller.new.store).doubt ≡ 0 = omega arith in
    let known = known_in (tables h) a.digest.now a.day c.in-Ok.caller c.in-Ok.desk (sym c.in-Ok.is ∙ c.in_ok-caller.ensures.known late (tables h) held) in
    opened_known a.policy.now h a.digest.now a.request.now a.day c.in-Ok.caller known.is c.decide_known.result (g.S.Store.view c.known_caller.new.store).handed
    (g.S.Store.view a.store.now).handed (g.S.Store.view c.decide_known.new.store).handed c.known_caller.ensures.read.handed
    (c.decide_known.ensures.opened doubt h is (c.known_caller.ensures.read.kept (tables h) held))

pub returns-in-Err-clause-model : goal.returns-in-Err-clause-model
returns-in-Err-clause-model g c = λ doubt h is held.
    let a = c.args in
    rw (refused_as a.policy.now h a.request.now a.day c.in-Err.refusal a.digest.now (sym c.in-Err.is ∙ c.in_ok-caller.ensures.known doubt (tables h) held))
    (refuses _ _ _ _ c.refused.ensures)

pub returns-in-Err-clause-opened : goal.returns-in-Err-clause-opened
returns-in-Err-clause-opened g c = λ doubt h is held.
    let a = c.args in
    rw c.refused.ensures (opens_refused (rows_opened a.policy.now h a.digest.now a.request.now a.day) c.in-Err.refusal _ _)
