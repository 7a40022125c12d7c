use Rattle.std.proofs.Common.{sym}
use Rattle.std.proofs.lemmas.Result.{IfOk-weaker}
use Rattle.permit_days.proofs.dates.date_text.Goals as goal

pub returns-in-Some : goal.returns-in-Some
returns-in-Some c = record {
  text = λ small. IfOk-weaker c.to_string.result _ _ (λ text is. (c.in-Some.date, c.in-Some.ensures.date, sym is)) c.to_string.ensures.ok;
}
