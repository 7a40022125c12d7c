use Rattle.permit_report.proofs.Calendar.{dates_agree}
use Rattle.permit_report.proofs.laws.civil_dates.Goals as goal

pub returns : goal.returns
returns c = dates_agree
