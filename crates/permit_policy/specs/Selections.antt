-- A listing's routes, those that ask the same of the caller together.
use Rattle.std.specs.Prelude.{Bool, true, false, not, ◌&&◌, if◌then◌else◌, List, [], ◌∷◌, ◌++◌, map, filter, Vec}
use Rattle.std.specs.Global.{Global}
use Rattle.std.specs.List.{list_all}
use Rattle.permit_base.specs.declared.words.Relations.{Relations}
use Rattle.permit_base.specs.declared.request.Filter.{Filter}
use Rattle.permit_base.specs.declared.route.By.{By}
use Rattle.permit_base.specs.declared.route.By.TheVariants as by
use Rattle.permit_base.specs.declared.route.Route.{Route}
use Rattle.permit_base.specs.declared.route.Route.TheVariants as route
use Rattle.permit_base.specs.Words.{all_relations}
use Rattle.permit_model.specs.Facts.{no_relations}
use Rattle.permit_model.specs.Opened.{Cell, Allowed, Pair, only, all_pairs, allowed_as_two}
use Rattle.permit_model.specs.Routes.{kept_cells, cell_on_day, cell_meets, route_by, is_open_to_all, is_all}

-- the routes in a vector
abbrev pub items_of : Vec Route Global → List Route
items_of routes = routes.items

-- what may be asked of the caller, in 22 ways: nothing, one relation, two relations
abbrev pub all_bys : List By
all_bys = by.Whole ∷ (map by.One all_relations ++ map (λ (pair : Pair). by.Two pair.0 pair.1) all_pairs)

-- whether a cell is opened so: whole where no relation is wanted, else by a relation that is allowed alone, or by two that are
-- allowed as two
abbrev pub opens : (Relations → Bool) → By → Bool
opens may by.Whole = may no_relations
opens may (by.One r) = not (may no_relations) && may (only r)
opens may (by.Two a b) = not (may no_relations) && allowed_as_two may (a, b)

-- whether the kept cell meets the filter and is opened so
abbrev pub is_opened : Allowed → Filter → By → Cell → Bool
is_opened allowed wanted asked cell = cell_meets wanted cell && opens (allowed (cell_on_day cell)) asked

-- the routes that ask the same of the caller
abbrev pub selection : Allowed → Filter → By → List Route
selection allowed wanted asked = map (λ cell. route_by cell asked) (filter (is_opened allowed wanted asked) kept_cells)

-- whether there is a route
abbrev pub has_routes : List Route → Bool
has_routes [] = false
has_routes (r ∷ rs) = true

-- one selection for each thing that is asked of the caller, with the cells that are opened so
abbrev pub selections_by_cells : Allowed → Filter → List (List Route)
selections_by_cells allowed wanted = map (selection allowed wanted) (filter (λ asked. has_routes (selection allowed wanted asked)) all_bys)

-- the selections of a listing: one of each row where nothing is wanted, else those of the cells
abbrev pub selections_of : Allowed → Filter → List (List Route)
selections_of allowed wanted =
    if is_all wanted && list_all (is_open_to_all allowed) kept_cells then (route.Every ∷ []) ∷ [] else selections_by_cells allowed wanted
