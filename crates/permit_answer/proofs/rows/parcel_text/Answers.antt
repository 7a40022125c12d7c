use Rattle.std.proofs.Common.{refl}
use Rattle.std.proofs.lemmas.Result.{IfOk-weaker}
use Rattle.serde_json.proofs.FreeTexts.{text_of_value}
use Rattle.permit_answer.specs.RowData.{parcel_data}
use Rattle.permit_answer.proofs.rows.parcel_text.Goals as goal

pub returns : goal.returns
returns c =
    IfOk-weaker c.text_of.result _ _ (λ text sent. text_of_value (parcel_data c.args.parcel.now) sent.0 text.items sent.1 sent.2 refl) c.text_of.ensures
