use Rattle.std.proofs.Common.{[]}
use Rattle.permit_recorded.proofs.Stepping.{with_history}
use Rattle.permit_recorded.proofs.laws.a_step_keeps_the_history.Goals as goal

pub returns : goal.returns
returns g c digest asked day old new reply step =
    with_history g.S.Store.view g.H.HistoryFile.view g.H.HistoryFile.leaves (g.met.H.HistoryFile.leaves_nothing []) digest asked day old new reply step
