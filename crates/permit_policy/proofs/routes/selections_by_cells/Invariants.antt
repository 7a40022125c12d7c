use Rattle.std.proofs.Common.{◌≡◌, ◌++◌, drop, map}
use Rattle.permit_policy.specs.Masks.{may}
use Rattle.permit_policy.specs.Selections.{all_bys, selection, has_routes, items_of}
use Rattle.permit_policy.proofs.Selecting.{gives}
use Rattle.permit_policy.proofs.routes.selections_by_cells.Given as goal

-- the selections so far, and those of the ways that are left
abbrev pub invariant-loop-by : goal.invariant-loop-by
invariant-loop-by l =
    let each = selection (may l.masks) l.filter in
    let rest = gives each (λ asked. has_routes (each asked)) in
    map items_of l.all.items ++ rest (drop l.by-index all_bys) ≡ rest all_bys
