use Rattle.std.proofs.Common.{rules, refl}
use Rattle.std.proofs.lemmas.Result.{on_ok_weaker}
use Rattle.permit_answer.specs.RowData.{listed_data}
use Rattle.permit_answer.proofs.Sending.{array_sent, each_more}
use Rattle.permit_answer.proofs.rows.send_files.Goals as goal

pub loop-file-preserved : goal.loop-file-preserved
loop-file-preserved g c =
    each_more listed_data c.args.files.now c.loop-file.file-index c.file-item.result _ _ _ c.loop-file.invariant c.in_ok-send_listed.ensures c.loop-file-test.true c.file-item.is

pub returns : goal.returns
returns g c =
    on_ok_weaker c.end_seq.result (array_sent listed_data _ _ _ _ _ _ _ _ refl (search rules)
    (search rules) c.in_ok-begin_seq.ensures c.loop-file.invariant) c.end_seq.ensures
