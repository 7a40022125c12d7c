use Rattle.std.proofs.Common.{rules}
use Rattle.permit_policy.specs.Masks.{may}
use Rattle.permit_policy.specs.Selections.{selection}
use Rattle.permit_policy.proofs.Ways.{way_kept, way_left, ways_end}
use Rattle.permit_policy.proofs.routes.selections_by_cells.Goals as goal
use Rattle.permit_policy.proofs.routes.selections_by_cells.Goals.{then-not-is_empty+in_ok-push, else-not-is_empty}

pub loop-by-preserved : goal.loop-by-preserved
loop-by-preserved c =
    let each = selection (may c.args.masks.now) c.args.filter.now in
    let items = c.bys-by-items.result.now in
    let i = c.loop-by.by-index in
    elim c.if-not-is_empty.branch [
      | then-not-is_empty+in_ok-push w ↦
          rw w.all-is (way_kept each items i _ c.loop-by.all.items _ c.in_ok-selection.selection _ c.bys-by-items.ensures c.loop-by-test.true
          c.in_ok-selection.ensures (search (rules, c.is_empty.ensures, w.if-not-is_empty.true)) w.in_ok-push.ensures.items c.loop-by.invariant)
      | else-not-is_empty w ↦
          rw w.all-is (way_left each items i _ c.loop-by.all.items c.in_ok-selection.selection _ c.bys-by-items.ensures c.loop-by-test.true
          c.in_ok-selection.ensures (search (rules, c.is_empty.ensures, w.if-not-is_empty.false)) c.loop-by.invariant)
    ]

pub returns : goal.returns
returns c =
    let each = selection (may c.args.masks.now) c.args.filter.now in
    ways_end each c.bys-by-items.result.now c.loop-by.by-index c.loop-by.all.items _ c.bys-by-items.ensures c.loop-by-test.false
    c.loop-by.invariant
