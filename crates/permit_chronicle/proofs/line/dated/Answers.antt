use Rattle.std.proofs.Common.{arith}
use Rattle.std.proofs.lemmas.Result.{IfOk-weaker}
use Rattle.permit_chronicle.proofs.Parts.{shown}
use Rattle.permit_chronicle.proofs.line.dated.Goals as goal

pub returns : goal.returns
returns c =
    IfOk-weaker c.date_text.result _ _ (λ text is. shown c.get.result c.args.day _ c.get.ensures.same
    (c.civil_dates.ensures c.get.result _ (omega (arith, c.get.ensures.within)) is)) (c.date_text.ensures.text (omega (arith, c.get.ensures.within)))
