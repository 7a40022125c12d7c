-- The two things that a selection asks of a row.
use Rattle.std.specs.Prelude.{ℕ, Bool, true}
use Rattle.permit_base.specs.declared.words.Relations.{Relations}
use Rattle.permit_base.specs.declared.route.Route.{Route}
use Rattle.permit_base.specs.declared.route.Route.TheVariants as route
use Rattle.permit_model.specs.Tables.{State}
use Rattle.permit_model.specs.Routes.{is_kept_in, is_by}

-- whether the row lies in the selection's cell on the day
abbrev pub lies_in : Route → ℕ → State → Bool
lies_in route.Every day state = true
lies_in (route.Cell files s b t) day state = is_kept_in s b t day state

-- whether the selection asks for rows to which the caller has these relations
abbrev pub is_wanted : Route → Relations → Bool
is_wanted route.Every set = true
is_wanted (route.Cell files s b t) set = is_by files set
