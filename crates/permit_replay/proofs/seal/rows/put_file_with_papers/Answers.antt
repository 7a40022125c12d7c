use Rattle.std.proofs.Common.{ap}
use Rattle.permit_replay.specs.TablesText.{file_line, paper_line}
use Rattle.permit_replay.proofs.Added.{adds_row, adds_same}
use Rattle.permit_replay.proofs.seal.rows.put_file_with_papers.Goals as goal

pub loop-paper-preserved : goal.loop-paper-preserved
loop-paper-preserved c =
    adds_row (file_line c.args.file.now) paper_line c.args.papers.now c.loop-paper.paper-index c.paper-item.result _ _ _ c.loop-paper-test.true
    c.loop-paper.invariant (adds_same _ _ _ _ (ap paper_line c.paper-item.is) c.put_paper.ensures)
