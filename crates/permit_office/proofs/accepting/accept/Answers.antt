use Rattle.std.proofs.Common.{◌≡◌, arith}
use Rattle.permit_model.specs.Tables.{tables}
use Rattle.permit_office.specs.Accepting.{AnswersCommand, outcome_unjudged, reach_recorded, request_of}
use Rattle.permit_office.proofs.Carrying.{attempted, no_less_doubt, on_reply, one_desk, own_reply}
use Rattle.permit_office.proofs.accepting.accept.Goals as goal

pub returns-in-Ok-clause-model : goal.returns-in-Ok-clause-model
returns-in-Ok-clause-model g c = λ doubt h is held token may.
    let a = c.args in
    let less = no_less_doubt c.in-Ok.decision (g.S.Store.view c.judge.new.store) (g.S.Store.view c.carry_out.new.store) c.carry_out.result
    c.carry_out.ensures.carried in
    let late : (g.S.Store.view c.judge.new.store).doubt ≡ 0 = omega (arith, less, doubt) in
    c.carry_out.ensures.model h (outcome_unjudged h a.day a.caller (request_of token a.act.now))
    (c.in-Ok.ensures.deciding.kept (tables h) held) (c.in-Ok.ensures.model late h is held token may)

pub returns-in-Ok-clause-sound : goal.returns-in-Ok-clause-sound
returns-in-Ok-clause-sound g c = λ doubt t held sound.
    let less = no_less_doubt c.in-Ok.decision (g.S.Store.view c.judge.new.store) (g.S.Store.view c.carry_out.new.store) c.carry_out.result
    c.carry_out.ensures.carried in
    let late : (g.S.Store.view c.judge.new.store).doubt ≡ 0 = omega (arith, less, doubt) in
    c.carry_out.ensures.sound t (c.in-Ok.ensures.deciding.kept t held) (c.in-Ok.ensures.sound late t held sound) c.args.caller c.in-Ok.ensures.proper

pub returns-in-Ok-clause-attempt : goal.returns-in-Ok-clause-attempt
returns-in-Ok-clause-attempt g c =
    attempted (reach_recorded c.args.act.now) c.in-Ok.decision (g.S.Store.view c.args.store.now) (g.S.Store.view c.judge.new.store)
    (g.S.Store.view c.carry_out.new.store) c.carry_out.result c.args.caller c.in-Ok.ensures.proper c.in-Ok.ensures.deciding c.carry_out.ensures.carried

pub returns-in-Ok-clause-one : goal.returns-in-Ok-clause-one
returns-in-Ok-clause-one g c =
    one_desk c.in-Ok.decision (g.S.Store.view c.judge.new.store) (g.S.Store.view c.carry_out.new.store) c.carry_out.result
    c.carry_out.ensures.carried c.in-Ok.ensures.one

pub returns-in-Ok-clause-own : goal.returns-in-Ok-clause-own
returns-in-Ok-clause-own g c =
    own_reply c.in-Ok.decision (g.S.Store.view c.judge.new.store) (g.S.Store.view c.carry_out.new.store) c.carry_out.result
    c.args.caller c.in-Ok.ensures.proper c.carry_out.ensures.carried

pub returns-in-Ok-clause-command : goal.returns-in-Ok-clause-command
returns-in-Ok-clause-command g c =
    on_reply AnswersCommand c.in-Ok.decision (g.S.Store.view c.judge.new.store) (g.S.Store.view c.carry_out.new.store) c.carry_out.result
    c.carry_out.ensures.carried c.in-Ok.ensures.command
