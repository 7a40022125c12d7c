use Rattle.std.proofs.lemmas.Result.{IfOk-weaker}
use Rattle.serde_json.proofs.FreeTexts.{text_of_value}
use Rattle.permit_answer.specs.RowData.{file_data}
use Rattle.permit_answer.proofs.NoFloats.{file_plain}
use Rattle.permit_answer.proofs.rows.file_text.Goals as goal

pub returns : goal.returns
returns c =
    IfOk-weaker c.text_of.result _ _ (λ text sent. text_of_value (file_data c.args.file.now c.args.papers.now) sent.0 text.items sent.1 sent.2
    (file_plain c.args.file.now c.args.papers.now)) c.text_of.ensures
