use Rattle.std.proofs.Common.{take}
use Rattle.serde.specs.Event.{WritesEach}
use Rattle.serde_json.specs.Events.{SendsValue}
use Rattle.permit_answer.specs.RowData.{listed_data}
use Rattle.permit_answer.proofs.rows.send_files.Given as goal

abbrev pub invariant-loop-file : goal.invariant-loop-file
invariant-loop-file g l = WritesEach (λ file. SendsValue (listed_data file)) (take l.file-index l.files) (g.S.Serializer.written l.initial.out)
    (g.S.Serializer.written l.out)
