use Rattle.std.proofs.Common.{◌≡◌}
use Rattle.std.specs.List.{list_all}
use Rattle.permit_model.specs.Routes.{kept_cells, is_open_to_all}
use Rattle.permit_policy.specs.Masks.{may}
use Rattle.permit_policy.proofs.KeptCells.{from_number}
use Rattle.permit_policy.proofs.routes.is_open_to_all.Given as goal

-- the cells that are left decide
abbrev pub invariant-loop-number : goal.invariant-loop-number
invariant-loop-number l =
    let is_open = is_open_to_all (may l.masks) in
    from_number (list_all is_open) l.number ≡ list_all is_open kept_cells
