use Rattle.std.proofs.Common.{◌≡◌, ◌++◌}
use Rattle.permit_model.specs.Routes.{kept_cells, routes_in, cell_meets}
use Rattle.permit_policy.specs.Masks.{may}
use Rattle.permit_policy.proofs.KeptCells.{from_number, each_gives}
use Rattle.permit_policy.proofs.routes.routes.Given as goal

-- the routes so far, and those of the cells that are left
abbrev pub invariant-loop-number : goal.invariant-loop-number
invariant-loop-number l =
    let route = routes_in (may l.masks) in
    let meeting = cell_meets l.filter in
    l.routes.items ++ from_number (each_gives route meeting) l.number ≡ each_gives route meeting kept_cells
