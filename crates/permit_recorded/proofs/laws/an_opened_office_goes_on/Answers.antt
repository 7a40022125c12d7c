use Rattle.std.proofs.Common.{[]}
use Rattle.permit_replay.specs.Holding.{IsBeginning}
use Rattle.permit_recorded.proofs.Opened.{goes_on}
use Rattle.permit_recorded.proofs.laws.an_opened_office_goes_on.Goals as goal

pub returns : goal.returns
returns g c = λ beginning.
    goes_on g.S.Store.view g.H.HistoryFile.view g.H.HistoryFile.leaves (g.met.H.HistoryFile.leaves_nothing []) (IsBeginning _ beginning)
