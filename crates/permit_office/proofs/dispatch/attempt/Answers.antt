use Rattle.std.proofs.Common.{◌≡◌, true, arith}
use Rattle.permit_model.specs.Machine.{step_as}
use Rattle.permit_model.specs.Tables.{tables}
use Rattle.permit_office.proofs.Attempting.{carried_step, no_less_doubt, own_with, shut_step, undecided_step}
use Rattle.permit_office.proofs.dispatch.attempt.Goals as goal

pub returns-then-not-is_open-clause-step : goal.returns-then-not-is_open-clause-step
returns-then-not-is_open-clause-step g c =
    let a = c.args in
    let test = c.if-not-is_open.true in
    shut_step g.S.Store.view g.L.Log a.policy.now a.digest.now a.request.now a.day a.store.now a.log.now cc

pub returns-in-Ok-clause-model : goal.returns-in-Ok-clause-model
returns-in-Ok-clause-model g c = λ doubt h is held.
    let a = c.args in
    let less = no_less_doubt g.S.Store.view g.L.Log a.policy.now a.digest.now a.request.now a.day c.in-Ok.decision c.decide.new.store
    c.enter_and_carry_out.new.store a.log.now c.enter_and_carry_out.new.log c.enter_and_carry_out.result c.enter_and_carry_out.ensures.carried in
    let late : (g.S.Store.view c.decide.new.store).doubt ≡ 0 = omega (arith, less, doubt) in
    c.enter_and_carry_out.ensures.model h (step_as a.policy.now h a.digest.now a.request.now a.day)
    (c.in-Ok.ensures.deciding.kept (tables h) held) (c.in-Ok.ensures.model late h is held)

pub returns-in-Ok-clause-step : goal.returns-in-Ok-clause-step
returns-in-Ok-clause-step g c =
    let a = c.args in
    let test = c.if-not-is_open.false in
    let ready : g.L.Log.is_open a.log.now ≡ true = cc in
    let e = c.in-Ok.ensures in
    carried_step g.S.Store.view g.L.Log a.policy.now a.digest.now a.request.now a.day c.in-Ok.decision e.proper.0 a.store.now c.decide.new.store
    c.enter_and_carry_out.new.store a.log.now c.enter_and_carry_out.new.log c.enter_and_carry_out.result ready (record {
      proper = e.proper.1;
      deciding = e.deciding;
      one = e.one;
      model = e.model;
      of = e.of;
      opened = e.opened;
      sound = e.sound;
    }) c.enter_and_carry_out.ensures.sound c.enter_and_carry_out.ensures.carried

pub returns-in-Ok-clause-own : goal.returns-in-Ok-clause-own
returns-in-Ok-clause-own g c =
    let a = c.args in
    own_with g.S.Store.view g.L.Log a.policy.now a.digest.now a.request.now a.day c.in-Ok.decision c.in-Ok.ensures.proper.0 c.decide.new.store
    c.enter_and_carry_out.new.store a.log.now c.enter_and_carry_out.new.log c.enter_and_carry_out.result c.in-Ok.ensures.proper.1
    c.enter_and_carry_out.ensures.carried

pub returns-in-Err-clause-step : goal.returns-in-Err-clause-step
returns-in-Err-clause-step g c =
    let a = c.args in
    let test = c.if-not-is_open.false in
    let ready : g.L.Log.is_open a.log.now ≡ true = cc in
    undecided_step g.S.Store.view g.L.Log a.policy.now a.digest.now a.request.now a.day a.store.now c.decide.new.store a.log.now c.in-Err.error ready
    c.in-Err.ensures.deciding
