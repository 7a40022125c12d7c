use Rattle.std.proofs.Common.{◌≡◌, ◌++◌, replicate}
use Rattle.permit_report.proofs.column.fill.Given as goal

abbrev pub invariant-loop-filled : goal.invariant-loop-filled
invariant-loop-filled g l = l.text.bytes ≡ l.fn.text.bytes ++ replicate l._filled l.letter
