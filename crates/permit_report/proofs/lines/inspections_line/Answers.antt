use Rattle.std.proofs.Common.{ap, ◌∙◌}
use Rattle.std.specs.Fmt.{decimal}
use Rattle.permit_base.specs.Words.{step_word}
use Rattle.permit_base.specs.declared.words.RegisterKind.TheVariants.{Inspections}
use Rattle.permit_core.specs.contracts.row.FileView.{the_view}
use Rattle.permit_model.specs.Tables.{FileView, next_in_row}
use Rattle.permit_model.specs.Register.{pad_left, pad_right, or_hyphen, date_text, file_line}
use Rattle.permit_report.proofs.Dates.{or_hyphen_is}
use Rattle.permit_report.proofs.Columns.{column, last_column, first_column}
use Rattle.permit_report.proofs.lines.inspections_line.Goals as goal

pub returns : goal.returns
returns c = λ today.
    let view = ap the_view c.file-inside.view_is ∙ c.file.view_is in
    let id = c.as_str.ensures.value ∙ c.number.ensures ∙ ap decimal (c.from.ensures ∙ c.get.ensures.same ∙ ap (λ (v : FileView). v.row.id) view) in
    let step = c.next_step.ensures.row ∙ ap (λ (v : FileView). next_in_row v.row.state) view in
    let next = c.step_or_hyphen.ensures ∙ ap (or_hyphen step_word) step in
    let day = c.day_number.ensures ∙ c.requested.ensures ∙ ap (λ (v : FileView). v.row.state.requested) view in
    let date = c.as_str-2.ensures.value ∙ c.date_or_hyphen.ensures ∙ or_hyphen_is c.day_number.result ∙ ap (or_hyphen date_text) day in
    let party = c.inspector.ensures ∙ ap (λ (v : FileView). v.row.state.inspector) view in
    let inspector = c.as_str-3.ensures.value ∙ c.party_or_hyphen.ensures ∙ ap (or_hyphen decimal) party in
    let notices = c.as_str-4.ensures.value ∙ c.number-2.ensures ∙ ap decimal
    (c.from-2.ensures ∙ c.notices.ensures ∙ ap (λ (v : FileView). v.row.state.notices) view) in
    let start = first_column c.new-line.result (file_line Inspections today c.args.file.now) c.new-line.ensures in
    let one = column _ _ _ _ _ _ c.right.ensures.text (ap (pad_left 5) id) start in
    let two = column _ _ _ _ _ _ c.left.ensures.text (ap (pad_right 7) next) one in
    let three = column _ _ _ _ _ _ c.left-2.ensures.text (ap (pad_right 10) date) two in
    let four = column _ _ _ _ _ _ c.right-2.ensures.text (ap (pad_left 9) inspector) three in
    last_column _ _ _ _ _ c.last.ensures (ap (pad_left 7) notices) four
