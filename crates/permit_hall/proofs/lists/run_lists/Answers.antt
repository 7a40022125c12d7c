use Rattle.permit_hall.proofs.Histories.{lists_served}
use Rattle.permit_hall.proofs.lists.run_lists.Goals as goal

pub returns-in-Ok-run_tasks-clause-history : goal.returns-in-Ok-run_tasks-clause-history
returns-in-Ok-run_tasks-clause-history g c = let r = c.in-Ok-run_tasks.ensures.served in
    let both = lists_served g.S.Store.view g.L.Log _ _ _ _ _ _ _ _ r.0 c.in-Ok.ensures r.1 in (r.0, both.0, both.1)
