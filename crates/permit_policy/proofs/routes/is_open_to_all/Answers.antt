use Rattle.std.proofs.Common.{◌≡◌, true, false, sym, ◌∙◌}
use Rattle.std.specs.List.{list_all}
use Rattle.permit_model.specs.Routes.{kept_cells, is_open_to_all}
use Rattle.permit_policy.specs.Masks.{may}
use Rattle.permit_policy.proofs.KeptCells.{at_place, shut_here, open_here, open_skip, kept_end}
use Rattle.permit_policy.proofs.CellRoutes.{is_open}
use Rattle.permit_policy.proofs.routes.is_open_to_all.Goals as goal
use Rattle.permit_policy.proofs.routes.is_open_to_all.Goals.{else-is_kept-via-then-is_kept+else-not-may, else-is_kept-via-else-is_kept}

pub returns-then-not-may : goal.returns-then-not-may
returns-then-not-may c =
    let masks = c.args.masks.now in
    let n = c.loop-number.number in
    let here = c.numbered-cell.result in
    let stands = at_place n here c.loop-number-test.true c.numbered-cell.ensures in
    let shut : is_open_to_all (may masks) here ≡ false =
    is_open masks here c.on_day.result c.no_relations.result false c.on_day.ensures c.no_relations.ensures c.if-not-may.ensures in
    shut_here (is_open_to_all (may masks)) n here (list_all (is_open_to_all (may masks)) kept_cells) c.loop-number-test.true stands
    (sym c.if-is_kept.ensures) shut c.loop-number.invariant

pub loop-number-preserved : goal.loop-number-preserved
loop-number-preserved c =
    let masks = c.args.masks.now in
    let n = c.loop-number.number in
    let here = c.numbered-cell.result in
    let stands = at_place n here c.loop-number-test.true c.numbered-cell.ensures in
    let whole = list_all (is_open_to_all (may masks)) kept_cells in
    elim c.else-is_kept.branch [
      | else-is_kept-via-then-is_kept+else-not-may w ↦
          let free : is_open_to_all (may masks) here ≡ true =
          is_open masks here w.on_day.result w.no_relations.result true w.on_day.ensures w.no_relations.ensures w.if-not-may.ensures in
          open_here (is_open_to_all (may masks)) n here whole c.loop-number-test.true stands (sym w.if-is_kept.ensures) free c.loop-number.invariant
      | else-is_kept-via-else-is_kept w ↦ open_skip (is_open_to_all (may masks)) n here whole c.loop-number-test.true stands
          (sym w.if-is_kept.ensures) c.loop-number.invariant
    ]

pub returns : goal.returns
returns c =
    let masks = c.args.masks.now in
    sym (kept_end (list_all (is_open_to_all (may masks))) c.loop-number.number c.loop-number-test.false) ∙ c.loop-number.invariant
