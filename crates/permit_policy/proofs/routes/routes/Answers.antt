use Rattle.std.proofs.Common.{Bool, sym, ap, ◌∙◌, ◌&&◌}
use Rattle.std.specs.List.{list_all}
use Rattle.permit_model.specs.Routes.{kept_cells, routes_in, cell_meets, is_open_to_all}
use Rattle.permit_policy.specs.Masks.{may}
use Rattle.permit_policy.proofs.KeptCells.{each_gives, at_place, cell_taken, cell_unmet, cell_skipped, cells_end}
use Rattle.permit_policy.proofs.CellRoutes.{all_routes}
use Rattle.permit_policy.proofs.routes.routes.Goals as goal
use Rattle.permit_policy.proofs.routes.routes.Goals.{then-is_kept+then-meets+in_ok-push_routes, else-is_kept, else-is_kept-via-then-is_kept+else-meets}
use Rattle.permit_policy.proofs.routes.routes.Goals.{else-is_kept-via-else-is_kept, else-is_all-via-then-is_all+else-is_open_to_all}
use Rattle.permit_policy.proofs.routes.routes.Goals.{else-is_all-via-else-is_all}

pub loop-number-preserved : goal.loop-number-preserved
loop-number-preserved c =
    let route = routes_in (may c.args.masks.now) in
    let meeting = cell_meets c.args.filter in
    let n = c.loop-number.number in
    let here = c.numbered-cell.result in
    let lt = c.loop-number-test.true in
    let made = c.loop-number.routes.items in
    let stands = at_place n here lt c.numbered-cell.ensures in
    let whole = each_gives route meeting kept_cells in
    elim c.if-is_kept.branch [
      | then-is_kept+then-meets+in_ok-push_routes w ↦
          rw w.routes-is (cell_taken route meeting n here made w.push_routes.new.routes.items whole lt stands (sym w.if-is_kept.ensures)
          (sym w.if-meets.ensures) w.in_ok-push_routes.ensures c.loop-number.invariant)
      | else-is_kept w ↦
          elim w.else-is_kept.branch [
            | else-is_kept-via-then-is_kept+else-meets v ↦
                rw w.routes-is (cell_unmet route meeting n here made whole lt stands (sym v.if-is_kept.ensures)
                (sym v.if-meets.ensures) c.loop-number.invariant)
            | else-is_kept-via-else-is_kept v ↦
                rw w.routes-is (cell_skipped route meeting n here made whole lt stands (sym v.if-is_kept.ensures) c.loop-number.invariant)
          ]
    ]

pub returns : goal.returns
returns c =
    let allowed = may c.args.masks.now in
    let wanted = c.args.filter in
    let made = c.loop-number.routes.items in
    let open_to_all : Bool = list_all (is_open_to_all allowed) kept_cells in
    let all = cells_end (routes_in allowed) (cell_meets wanted) c.loop-number.number made
    (each_gives (routes_in allowed) (cell_meets wanted) kept_cells) c.loop-number-test.false c.loop-number.invariant in
    record {
      exact = elim c.else-is_all.branch [
        | else-is_all-via-then-is_all+else-is_open_to_all w ↦ all_routes allowed wanted made
            (ap (λ b. b && open_to_all) (sym w.if-is_all.ensures) ∙ sym w.if-is_open_to_all.ensures) all
        | else-is_all-via-else-is_all w ↦ all_routes allowed wanted made (ap (λ b. b && open_to_all) (sym w.if-is_all.ensures)) all
      ];
    }
