use Rattle.std.proofs.Common.{ap, ◌∙◌}
use Rattle.std.specs.Fmt.{decimal}
use Rattle.permit_base.specs.Words.{stage_word, timing_word}
use Rattle.permit_base.specs.declared.words.RegisterKind.TheVariants.{Deadlines}
use Rattle.permit_core.specs.contracts.row.FileView.{the_view}
use Rattle.permit_model.specs.Tables.{FileView}
use Rattle.permit_model.specs.Register.{pad_left, pad_right, or_hyphen, date_text, days_left, file_line}
use Rattle.permit_report.proofs.Dates.{or_hyphen_is}
use Rattle.permit_report.proofs.Columns.{column, last_column, first_column}
use Rattle.permit_report.proofs.lines.deadlines_line.Goals as goal

pub returns : goal.returns
returns c =
    let view = ap the_view c.file-inside.view_is ∙ c.file.view_is in
    let id = c.as_str.ensures.value ∙ c.number.ensures ∙ ap decimal (c.from.ensures ∙ c.get.ensures.same ∙ ap (λ (v : FileView). v.row.id) view) in
    let stage = c.word.ensures ∙ ap (λ (v : FileView). stage_word v.stage) view in
    let timing = c.word-2.ensures ∙ ap (λ (v : FileView). timing_word v.timing) view in
    let day = c.deadline.ensures.row ∙ ap (λ (v : FileView). v.row.state.deadline) view in
    let date = c.as_str-2.ensures.value ∙ c.date_or_hyphen.ensures ∙ or_hyphen_is c.deadline.result ∙ ap (or_hyphen date_text) day in
    let again = c.deadline-2.ensures.row ∙ ap (λ (v : FileView). v.row.state.deadline) view in
    let left = c.as_str-3.ensures.value ∙ c.days_left_or_hyphen.ensures ∙ ap (or_hyphen (days_left c.args.day)) again in
    let start = first_column c.new-line.result (file_line Deadlines c.args.day c.args.file.now) c.new-line.ensures in
    let one = column _ _ _ _ _ _ c.right.ensures.text (ap (pad_left 5) id) start in
    let two = column _ _ _ _ _ _ c.left.ensures.text (ap (pad_right 9) stage) one in
    let three = column _ _ _ _ _ _ c.left-2.ensures.text (ap (pad_right 6) timing) two in
    let four = column _ _ _ _ _ _ c.left-3.ensures.text (ap (pad_right 10) date) three in
    last_column _ _ _ _ _ c.last.ensures (ap (pad_left 7) left) four
