use Rattle.std.proofs.Common.{sym, ap, ◌∙◌, lit<}
use Rattle.permit_model.specs.Register.{written_date}
use Rattle.permit_report.proofs.Dates.{shown_date_is, date_pieces}
use Rattle.permit_report.proofs.date.date.Goals as goal

pub returns : goal.returns
returns c =
    let is = c.year_of-year.ensures.date ∙ c.month_of-month.ensures.date in
    date_pieces record { year = c.year_of-year.result.0; month = c.month_of-month.result.0; day = c.month_of-month.result.1 } _ _ _ _ _ _
    c.new-text.ensures c.push_padded.ensures.text (c.push.ensures.ascii (lit< tt)) c.push_padded-2.ensures.text
    (c.push-2.ensures.ascii (lit< tt)) c.push_padded-3.ensures.text
    ∙ sym (shown_date_is c.args.day ∙ ap written_date is)
