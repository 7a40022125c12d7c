use Rattle.std.proofs.Common.{take}
use Rattle.serde.specs.Event.{WritesEach}
use Rattle.serde_json.specs.Events.{SendsValue}
use Rattle.permit_answer.specs.RowData.{paper_data}
use Rattle.permit_answer.proofs.rows.send_papers.Given as goal

abbrev pub invariant-loop-paper : goal.invariant-loop-paper
invariant-loop-paper g l = WritesEach (λ paper. SendsValue (paper_data paper)) (take l.paper-index l.papers) (g.S.Serializer.written l.initial.out)
    (g.S.Serializer.written l.out)
