use Rattle.std.proofs.Common.{ap, ◌∙◌}
use Rattle.std.proofs.lemmas.Result.{IfOk-weaker}
use Rattle.serde_json.proofs.FreeTexts.{text_of_value}
use Rattle.permit_history.specs.LineData.{line_data}
use Rattle.permit_history.specs.LineRead.{reading_of}
use Rattle.permit_history.proofs.NoFloats.{line_plain}
use Rattle.permit_history.proofs.OneText.{line_read}
use Rattle.permit_history.proofs.write.write_line.Goals as goal

pub returns-clause-line : goal.returns-clause-line
returns-clause-line c =
    IfOk-weaker c.text_of.result _ _ (λ text sent. text_of_value (line_data c.args.entry.now) sent.0 text.items sent.1 sent.2
    (line_plain c.args.entry.now)) c.text_of.ensures

pub returns-clause-read : goal.returns-clause-read
returns-clause-read c =
    IfOk-weaker c.text_of.result _ _ (λ text same. ap reading_of same ∙ line_read c.args.entry.now c.entry_within.ensures) (returns-clause-line c)
