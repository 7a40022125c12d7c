use Rattle.permit_sockets.proofs.Histories.{history_of}
use Rattle.permit_sockets.proofs.serving.serve.Goals as goal

pub returns-clause-run : goal.returns-clause-run
returns-clause-run g c = history_of g.S.Store.view g.L.Log _ _ _ _ _ _ _ _ c.serve_service.ensures.run
