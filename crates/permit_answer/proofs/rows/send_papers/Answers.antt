use Rattle.std.proofs.Common.{rules, refl}
use Rattle.std.proofs.lemmas.Result.{on_ok_weaker}
use Rattle.permit_answer.specs.RowData.{paper_data}
use Rattle.permit_answer.proofs.Sending.{array_sent, each_more}
use Rattle.permit_answer.proofs.rows.send_papers.Goals as goal

pub loop-paper-preserved : goal.loop-paper-preserved
loop-paper-preserved g c =
    each_more paper_data c.args.papers.now c.loop-paper.paper-index c.paper-item.result _ _ _ c.loop-paper.invariant c.in_ok-send_paper.ensures c.loop-paper-test.true c.paper-item.is

pub returns : goal.returns
returns g c =
    on_ok_weaker c.end_seq.result (array_sent paper_data _ _ _ _ _ _ _ _ refl (search rules)
    (search rules) c.in_ok-begin_seq.ensures c.loop-paper.invariant) c.end_seq.ensures
