use Rattle.std.proofs.Common.{ap, ◌∙◌, ◌++◌}
use Rattle.permit_model.specs.Routes.{route_by}
use Rattle.permit_policy.specs.Masks.{has_set}
use Rattle.permit_policy.specs.Selections.{all_bys, opens}
use Rattle.permit_policy.proofs.Selecting.{items_end}
use Rattle.permit_policy.proofs.CellRoutes.{routes_by_word}
use Rattle.permit_policy.proofs.routes.push_routes.Goals as goal

pub returns : goal.returns
returns c =
    let a = c.args in
    let mask = c.word-mask.result in
    items_end (route_by a.cell) (opens (has_set mask)) all_bys c.loop-by.by-index c.loop-by.routes.items _ (rw c.bys-by-items.ensures at c.loop-by-test.false) c.loop-by.invariant
    ∙ ap (λ rs. a.routes.now.items ++ rs) (routes_by_word a.masks.now a.cell c.on_day.result mask c.on_day.ensures c.word-mask.ensures)
