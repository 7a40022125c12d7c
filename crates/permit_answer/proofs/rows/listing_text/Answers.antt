use Rattle.std.proofs.lemmas.Result.{IfOk-weaker}
use Rattle.serde_json.proofs.FreeTexts.{text_of_value}
use Rattle.permit_answer.specs.RowData.{listing_data}
use Rattle.permit_answer.proofs.NoFloats.{listing_plain}
use Rattle.permit_answer.proofs.rows.listing_text.Goals as goal

pub returns : goal.returns
returns c =
    IfOk-weaker c.text_of.result _ _ (λ text sent. text_of_value (listing_data c.args.files.now) sent.0 text.items sent.1 sent.2
    (listing_plain c.args.files.now)) c.text_of.ensures
