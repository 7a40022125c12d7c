use Rattle.permit_hall.proofs.Histories.{one_history}
use Rattle.permit_hall.proofs.doors.run_hall.Goals as goal

pub returns-in-Ok-clause-history : goal.returns-in-Ok-clause-history
returns-in-Ok-clause-history g c = let r = c.in-Ok.ensures.history in
    (r.0, one_history g.S.Store.view g.L.Log _ _ _ _ _ _ r.0 r.1, r.2)
