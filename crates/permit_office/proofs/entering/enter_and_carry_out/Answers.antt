use Rattle.permit_model.specs.Tables.{tables}
use Rattle.permit_office.proofs.Withdrawn.{done, not_entered, undone}
use Rattle.permit_office.proofs.entering.enter_and_carry_out.Goals as goal

pub returns-in_err-enter-clause-carried : goal.returns-in_err-enter-clause-carried
returns-in_err-enter-clause-carried g c =
    not_entered g.S.Store.view g.L.Log c.args.request.now c.args.day _ c.args.decision c.args.store.now c.args.log.now c.enter.new.log _
    c.from_residual.result c.from_residual.ensures.0 c.in_err-enter.ensures

pub returns-in-Ok-clause-carried : goal.returns-in-Ok-clause-carried
returns-in-Ok-clause-carried g c =
    done g.S.Store.view g.L.Log c.args.request.now c.args.day _ _ c.args.decision c.args.store.now c.carry_out.new.store c.args.log.now c.enter.new.log
    c.in-Ok.reply c.in_ok-enter.ensures c.in-Ok.ensures.carried

pub returns-in-Err-clause-model : goal.returns-in-Err-clause-model
returns-in-Err-clause-model g c h outcome held decided = c.withdraw.ensures.withdrawing.kept (tables h) (c.in-Err.ensures.model h outcome held decided)

pub returns-in-Err-clause-carried : goal.returns-in-Err-clause-carried
returns-in-Err-clause-carried g c =
    undone g.S.Store.view g.L.Log c.args.request.now c.args.day _ _ c.args.decision c.args.store.now c.carry_out.new.store c.withdraw.new.store c.args.log.now
    c.enter.new.log c.withdraw.new.self c.in-Err.error c.in_ok-enter.ensures c.in-Err.ensures.carried c.withdraw.ensures.withdrawing
    c.withdraw.ensures.withdrawn
