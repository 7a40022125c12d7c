use Rattle.std.proofs.Common.{length, ap, ◌∙◌, arith}
use Rattle.std.specs.Fmt.{decimal}
use Rattle.permit_base.specs.Words.{kind_word, stage_word, timing_word}
use Rattle.permit_base.specs.declared.words.RegisterKind.TheVariants.{Files}
use Rattle.permit_core.specs.contracts.row.FileView.{the_view}
use Rattle.permit_model.specs.Tables.{FileView}
use Rattle.permit_model.specs.Register.{pad_left, pad_right, or_hyphen, date_text, file_line}
use Rattle.permit_report.proofs.Dates.{or_hyphen_is}
use Rattle.permit_report.proofs.Columns.{column, last_column, first_column}
use Rattle.permit_report.proofs.Digits.{kind_fits, stage_fits, timing_fits}
use Rattle.permit_report.proofs.lines.files_line.Goals as goal

pub left-requires-4 : goal.left-requires-4
left-requires-4 c = omega (arith, ap length c.new-line.ensures, kind_fits _ _ c.word.ensures, stage_fits _ _ c.word-2.ensures, timing_fits _ _ c.word-3.ensures)

pub last-requires : goal.last-requires
last-requires c = omega (arith, ap length c.new-line.ensures, kind_fits _ _ c.word.ensures, stage_fits _ _ c.word-2.ensures, timing_fits _ _ c.word-3.ensures)

pub returns : goal.returns
returns c = λ today.
    let view = ap the_view c.file-inside.view_is ∙ c.file.view_is in
    let id = c.as_str.ensures.value ∙ c.number.ensures ∙ ap decimal (c.from.ensures ∙ c.get.ensures.same ∙ ap (λ (v : FileView). v.row.id) view) in
    let parcel = c.as_str-2.ensures.value ∙ c.number-2.ensures ∙ ap decimal
    (c.from-2.ensures ∙ c.get-2.ensures.same ∙ c.parcel.ensures ∙ ap (λ (v : FileView). v.row.state.parcel) view) in
    let kind = c.word.ensures ∙ ap kind_word c.kind.ensures ∙ ap (λ (v : FileView). kind_word v.row.state.kind) view in
    let stage = c.word-2.ensures ∙ ap (λ (v : FileView). stage_word v.stage) view in
    let timing = c.word-3.ensures ∙ ap (λ (v : FileView). timing_word v.timing) view in
    let day = c.deadline.ensures.row ∙ ap (λ (v : FileView). v.row.state.deadline) view in
    let date = c.as_str-3.ensures.value ∙ c.date_or_hyphen.ensures ∙ or_hyphen_is c.deadline.result ∙ ap (or_hyphen date_text) day in
    let cents = c.as_str-4.ensures.value ∙ c.number-3.ensures ∙ ap decimal (c.get-3.ensures.same ∙ ap (λ (v : FileView). v.row.valuation) view) in
    let start = first_column c.new-line.result (file_line Files today c.args.file.now) c.new-line.ensures in
    let one = column _ _ _ _ _ _ c.right.ensures.text (ap (pad_left 5) id) start in
    let two = column _ _ _ _ _ _ c.right-2.ensures.text (ap (pad_left 6) parcel) one in
    let three = column _ _ _ _ _ _ c.left.ensures.text (ap (pad_right 9) kind) two in
    let four = column _ _ _ _ _ _ c.left-2.ensures.text (ap (pad_right 9) stage) three in
    let five = column _ _ _ _ _ _ c.left-3.ensures.text (ap (pad_right 6) timing) four in
    let six = column _ _ _ _ _ _ c.left-4.ensures.text (ap (pad_right 10) date) five in
    last_column _ _ _ _ _ c.last.ensures (ap (pad_left 13) cents) six
