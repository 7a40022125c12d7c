use Rattle.std.proofs.Common.{ap, sym, ◌∙◌, ◌&&◌, Bool}
use Rattle.std.specs.List.{list_all}
use Rattle.permit_model.specs.Routes.{kept_cells, is_open_to_all}
use Rattle.permit_policy.specs.Masks.{may}
use Rattle.permit_policy.proofs.Ways.{by_cells}
use Rattle.permit_policy.proofs.routes.selections.Goals as goal
use Rattle.permit_policy.proofs.routes.selections.Goals.{else-is_all-via-then-is_all+else-is_open_to_all, else-is_all-via-else-is_all}

pub returns : goal.returns
returns c =
    let allowed = may c.args.masks.now in
    let open_to_all : Bool = list_all (is_open_to_all allowed) kept_cells in
    elim c.else-is_all.branch [
      | else-is_all-via-then-is_all+else-is_open_to_all w ↦ by_cells allowed c.args.filter c.selections_by_cells.result
          (ap (λ b. b && open_to_all) (sym w.if-is_all.ensures) ∙ sym w.if-is_open_to_all.ensures) c.selections_by_cells.ensures
      | else-is_all-via-else-is_all w ↦ by_cells allowed c.args.filter c.selections_by_cells.result (ap (λ b. b && open_to_all) (sym w.if-is_all.ensures))
          c.selections_by_cells.ensures
    ]
