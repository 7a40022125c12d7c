use Rattle.std.proofs.Common.{◌≤◌, length, ap, arith}
use Rattle.permit_report.proofs.Digits.{two_digits, ten_digits}
use Rattle.permit_report.proofs.date.month_of.Goals as goal

pub returns-then-days-length-clause-digits : goal.returns-then-days-length-clause-digits
returns-then-days-length-clause-digits c =
    let twelve = ap length c.loop-length.invariant.lengths in
    let at : c.loop-length.length-index ≤ 12 = omega (arith, c.loop-length.auto.length-index-end, twelve) in
    (two_digits c.loop-length.month (omega (arith, c.loop-length.invariant.month)), ten_digits _ (omega (arith, c.loop-length.invariant.less, c.requires)))

pub returns-clause-digits : goal.returns-clause-digits
returns-clause-digits c =
    let twelve = ap length c.loop-length.invariant.lengths in
    let at : c.loop-length.length-index ≤ 12 = omega (arith, c.loop-length.auto.length-index-end, twelve) in
    (two_digits c.loop-length.month (omega (arith, c.loop-length.invariant.month)), ten_digits _ (omega (arith, c.loop-length.invariant.less, c.requires)))
