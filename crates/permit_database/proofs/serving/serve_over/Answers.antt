use Rattle.std.proofs.Common.{[], inr, sym}
use Rattle.permit_database.proofs.Failures.{at_ok}
use Rattle.permit_database.proofs.Served.{at_err, ended_so, none_served, told_spent, told_stopped}
use Rattle.permit_database.proofs.serving.serve_over.Goals as goal

pub returns-then-any_stopped-clause-history : goal.returns-then-any_stopped-clause-history
returns-then-any_stopped-clause-history g c =
    let run = at_ok _ c.serve-office.result.1 c.in-Ok.ends c.in-Ok.is c.serve-office.ensures.run in
    ended_so g.S.Store.view g.L.Log _ c.args.words.now.workers c.args.office c.serve-office.result.0 c.args.today.now c.serve-office.new.today _ _ _ _
    c.args.words.now.connections _ _ c.in-Ok.ends.items _
    run
    (told_stopped c.in-Ok.ends.items c.any_stopped.result c.memory.result c.any_stopped.ensures c.if-any_stopped.true c.memory.ensures)

pub returns-in-Ok-clause-history : goal.returns-in-Ok-clause-history
returns-in-Ok-clause-history g c =
    let run = at_ok _ c.serve-office.result.1 c.in-Ok.ends c.in-Ok.is c.serve-office.ensures.run in
    ended_so g.S.Store.view g.L.Log _ c.args.words.now.workers c.args.office c.serve-office.result.0 c.args.today.now c.serve-office.new.today _ _ _ _
    c.args.words.now.connections _ _ c.in-Ok.ends.items _
    run
    (told_spent c.in-Ok.ends.items c.any_stopped.result c.any_stopped.ensures c.if-any_stopped.false)

pub returns-clause-history : goal.returns-clause-history
returns-clause-history g c =
    let kept = at_err c.serve-office.result.1 c.in-Err.failure c.in-Err.is c.serve-office.ensures.same in (
      [],
      none_served g.S.Store.view g.L.Log _ c.args.words.now.workers c.args.office c.serve-office.result.0 c.args.today.now c.serve-office.new.today
          kept.0 kept.1,
      sym kept.0,
      inr kept,
    )
