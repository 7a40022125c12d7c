use Rattle.std.proofs.Common.{◌≡◌, ◌+◌, ◌≤◌, drop}
use Rattle.permit_model.specs.Register.{month_days, date_in_months}
use Rattle.permit_report.proofs.date.month_of.Given as goal

abbrev pub invariant-loop-length : goal.invariant-loop-length
invariant-loop-length l = record {
  lengths : l.length-items ≡ month_days l.fn.year;
  month : l.month ≡ l.length-index + 1;
  less : l.days ≤ l.fn.before;
  date : date_in_months l.fn.year 1 (month_days l.fn.year) l.fn.before ≡ date_in_months l.fn.year l.month (drop l.length-index l.length-items) l.days;
}
