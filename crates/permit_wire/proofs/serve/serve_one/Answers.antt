use Rattle.permit_wire.proofs.Asking as asking
use Rattle.permit_wire.proofs.serve.serve_one.Goals as goal

pub returns-clause-moves : goal.returns-clause-moves
returns-clause-moves g c = asking.moves g.S.Store.view g.L.Log c.args.day c.args.office.now c.serve_by.new.service c.serve_by.result.asked c.serve_by.ensures.asks

pub returns-clause-policy : goal.returns-clause-policy
returns-clause-policy g c = asking.policy g.S.Store.view g.L.Log c.args.day c.args.office.now c.serve_by.new.service
    (asking.moves g.S.Store.view g.L.Log c.args.day c.args.office.now c.serve_by.new.service c.serve_by.result.asked c.serve_by.ensures.asks)

pub returns-clause-doubt : goal.returns-clause-doubt
returns-clause-doubt g c = asking.doubt g.S.Store.view g.L.Log c.args.day c.args.office.now c.serve_by.new.service
    (asking.moves g.S.Store.view g.L.Log c.args.day c.args.office.now c.serve_by.new.service c.serve_by.result.asked c.serve_by.ensures.asks)
