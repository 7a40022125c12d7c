use Rattle.std.proofs.Common.{◌≡◌, ◌++◌, drop}
use Rattle.permit_model.specs.Routes.{route_by}
use Rattle.permit_policy.specs.Masks.{has_set}
use Rattle.permit_policy.specs.Selections.{all_bys, opens}
use Rattle.permit_policy.proofs.Selecting.{gives}
use Rattle.permit_policy.proofs.routes.push_routes.Given as goal

-- the routes so far, and those of the ways that are left
abbrev pub invariant-loop-by : goal.invariant-loop-by
invariant-loop-by l =
    let rest = gives (route_by l.cell) (opens (has_set l.mask)) in
    l.routes.items ++ rest (drop l.by-index all_bys) ≡ l.fn.routes.items ++ rest all_bys
