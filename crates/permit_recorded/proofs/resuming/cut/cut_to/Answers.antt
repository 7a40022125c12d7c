use Rattle.std.proofs.Common.{◌≤◌, length, refl, inr, arith}
use Rattle.permit_recorded.proofs.Cutting.{crash_of_cut, left_by_cut, on_err}
use Rattle.permit_recorded.proofs.resuming.cut.cut_to.Goals as goal

pub returns-then-kept-size-clause-part : goal.returns-then-kept-size-clause-part
returns-then-kept-size-clause-part g c size =
    let text = (g.H.HistoryFile.view c.args.file.now).text in
    let within : c.args.kept ≤ length text = omega (arith, size, c.if-kept-size.true) in
    on_err c.cut.result (left_by_cut g.H.HistoryFile.leaves text text (g.H.HistoryFile.view c.cut.new.self).text c.args.kept
    (g.met.H.HistoryFile.leaves_all _) within refl c.cut.ensures.part)

pub returns-then-kept-size-clause-crash : goal.returns-then-kept-size-clause-crash
returns-then-kept-size-clause-crash g c size only c' left =
    let text = (g.H.HistoryFile.view c.args.file.now).text in
    let within : c.args.kept ≤ length text = omega (arith, size, c.if-kept-size.true) in
    inr (crash_of_cut g.H.HistoryFile.leaves text (g.H.HistoryFile.view c.args.file.now).may_leave (g.H.HistoryFile.view c.cut.new.self).may_leave c.args.kept
    (g.met.H.HistoryFile.leaves_all _) within only c.cut.ensures.crash c' left)
