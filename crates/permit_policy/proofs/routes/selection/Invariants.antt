use Rattle.std.proofs.Common.{◌≡◌, ◌++◌, ◌&&◌, drop}
use Rattle.permit_model.specs.Opened.{Cell, cells}
use Rattle.permit_model.specs.Routes.{route_by}
use Rattle.permit_policy.specs.Kept.{is_kept}
use Rattle.permit_policy.specs.Masks.{may}
use Rattle.permit_policy.specs.Selections.{is_opened}
use Rattle.permit_policy.proofs.Selecting.{gives}
use Rattle.permit_policy.proofs.routes.selection.Given as goal

-- the routes so far, and those of the cells that are left
abbrev pub invariant-loop-number : goal.invariant-loop-number
invariant-loop-number l =
    let rest = gives (λ (cell : Cell). route_by cell l.by) (λ cell. is_kept cell && is_opened (may l.masks) l.filter l.by cell) in
    l.routes.items ++ rest (drop l.number cells) ≡ rest cells
