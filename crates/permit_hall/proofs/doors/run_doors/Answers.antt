use Rattle.permit_hall.specs.Doors.{HasEnded}
use Rattle.permit_hall.proofs.Histories.{doors_served}
use Rattle.permit_hall.proofs.doors.run_doors.Goals as goal

pub returns-in-Ok-run_tasks-clause-history : goal.returns-in-Ok-run_tasks-clause-history
returns-in-Ok-run_tasks-clause-history g c = let r = c.in-Ok-run_tasks.ensures.served in
    let done = HasEnded g.D.In.Read.remaining g.D.Out.Write.contents g.D.Door.gave g.D.Door.spent in
    let both = doors_served g.M.Service.did _ done _ _ _ _ _ _ _ _ c.in-Ok.ensures r.1 in
    (r.0, both.0, record { count = both.1; each = both.2 })
