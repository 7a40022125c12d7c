use Rattle.std.proofs.Common.{arith}
use Rattle.permit_policy.specs.Marks.{IsIn, IsOf}
use Rattle.permit_policy.proofs.MarkSteps.{InCellsBefore, marks_none, marks_then, marks_of, next_cell, all_cells}
use Rattle.permit_policy.proofs.dead.mark_in_cells.Goals as goal

pub loop-number-init : goal.loop-number-init
loop-number-init c = λ role action hits. marks_none _ _ _ (λ facts s. let bad = s.1 in omega arith)

pub loop-number-preserved : goal.loop-number-preserved
loop-number-preserved c = λ role action hits.
    let n = c.loop-number.number in
    let here = c.numbered.result in
    marks_then c.args.rules.now (InCellsBefore role action n) (IsIn role action here) _ _ c.loop-number.live _
    (c.loop-number.invariant role action hits) (c.mark_in_cell.ensures role action hits) (next_cell role action n here c.numbered.ensures)

pub returns : goal.returns
returns c = λ role action hits.
    marks_of c.args.rules.now (InCellsBefore role action c.loop-number.number) (IsOf role action) _ _ (c.loop-number.invariant role action hits)
    (all_cells role action c.loop-number.number c.loop-number-test.false)
