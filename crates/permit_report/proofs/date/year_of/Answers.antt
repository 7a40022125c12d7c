use Rattle.std.proofs.Common.{◌≡◌, ◌+◌, ◌-◌, sym, ap, ◌∙◌, lit<, arith}
use Rattle.permit_model.specs.Register.{year_days}
use Rattle.permit_report.specs.Dates.{date_from}
use Rattle.permit_report.proofs.Dates.{date_from_next, date_from_here, date_from_last, year_days_least}
use Rattle.permit_report.proofs.Digits.{four_digits}
use Rattle.permit_report.proofs.date.year_of.Goals as goal

pub loop-year-preserved : goal.loop-year-preserved
loop-year-preserved c =
    let is = c.year_length-length.ensures in
    let next = date_from_next (2570 - c.loop-year.year) c.loop-year.year c.loop-year.days (omega arith) (omega (arith, is)) in
    let later = c.loop-year.year + 1 in
    let back : 2570 - c.loop-year.year - 1 ≡ 2570 - (c.loop-year.year + 1) = omega arith in
    record {
      less = omega (arith, is, year_days_least c.loop-year.year);
      date = c.loop-year.invariant.date ∙ next ∙ ap (λ n. date_from n later (c.loop-year.days - year_days c.loop-year.year)) back
          ∙ ap (λ n. date_from (2570 - later) later (c.loop-year.days - n)) (sym is);
    }

pub returns-then-days-length-clause-date : goal.returns-then-days-length-clause-date
returns-then-days-length-clause-date c =
    c.loop-year.invariant.date ∙ date_from_here (2570 - c.loop-year.year) c.loop-year.year c.loop-year.days (omega (arith, c.year_length-length.ensures))

pub returns-then-days-length-clause-digits : goal.returns-then-days-length-clause-digits
returns-then-days-length-clause-digits c = four_digits c.loop-year.year (omega arith)

pub returns-clause-date : goal.returns-clause-date
returns-clause-date c =
    c.loop-year.invariant.date ∙ date_from_last (2570 - c.loop-year.year) c.loop-year.year 2570 c.loop-year.days (omega arith) (omega arith)

pub returns-clause-digits : goal.returns-clause-digits
returns-clause-digits c = four_digits 2570 (lit< tt)
