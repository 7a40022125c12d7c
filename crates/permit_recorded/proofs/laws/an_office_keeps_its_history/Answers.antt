use Rattle.std.proofs.Common.{[]}
use Rattle.permit_recorded.proofs.Running.{keeps_its_history}
use Rattle.permit_recorded.proofs.laws.an_office_keeps_its_history.Goals as goal

pub returns : goal.returns
returns g c =
    keeps_its_history g.S.Store.view g.H.HistoryFile.view g.H.HistoryFile.leaves (g.met.H.HistoryFile.leaves_nothing [])
