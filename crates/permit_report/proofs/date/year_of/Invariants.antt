use Rattle.std.proofs.Common.{◌≡◌, ◌+◌, ◌-◌, ◌≤◌}
use Rattle.permit_report.specs.Dates.{date_from}
use Rattle.permit_report.proofs.date.year_of.Given as goal

abbrev pub invariant-loop-year : goal.invariant-loop-year
invariant-loop-year l = record {
  less : l.days + l.year ≤ l.fn.day + 1970;
  date : date_from 600 1970 l.fn.day ≡ date_from (2570 - l.year) l.year l.days;
}
