use Rattle.std.proofs.Common.{subst, sym}
use Rattle.permit_recorded.specs.Logs.{IsEntered}
use Rattle.permit_recorded.proofs.Entering.{withdrawn}
use Rattle.permit_recorded.proofs.log.HistoryLogLog.withdraw.Goals as goal

pub returns-clause-withdrawn : goal.returns-clause-withdrawn
returns-clause-withdrawn g c before noted entered =
    let view = g.H.HistoryFile.view in
    let leaves = g.H.HistoryFile.leaves in
    let done = c.take_back_failed.ensures in
    withdrawn view leaves before (record { journal = c.self.inside.journal; before = c.self.inside.before }) _ noted (g.S.Store.view c.args.store.now)
    (g.S.Store.view c.take_back_failed.new.store) (subst (IsEntered view leaves before noted) (sym c.self.view_is) entered) done.back done.crash done.stays
    done.read
