-- The selections by which a listing's rows are found in the tables.
use Rattle.std.specs.Prelude.{ℕ, Bool, true, false, ◌&&◌, ◌==◌, if◌then◌else◌, List, [], ◌∷◌, ◌++◌, map, filter, find, Option, option_map}
use Rattle.std.specs.List.{flat_map, list_any, list_all}
use Rattle.permit_base.specs.declared.words.Stage.{Stage}
use Rattle.permit_base.specs.declared.words.Timing.{Timing}
use Rattle.permit_base.specs.declared.words.Timing.TheVariants.{Untimed, Past, Near, Ahead}
use Rattle.permit_base.specs.declared.words.Relations.{Relations}
use Rattle.permit_base.specs.declared.request.Filter.{Filter}
use Rattle.permit_base.specs.declared.request.Filter.TheVariants.{All, InStage, Due}
use Rattle.permit_base.specs.declared.route.By.{By}
use Rattle.permit_base.specs.declared.route.By.TheVariants as by
use Rattle.permit_base.specs.declared.route.Route.{Route}
use Rattle.permit_base.specs.declared.route.Route.TheVariants as route
use Rattle.permit_base.specs.Words.{all_stages, all_relations}
use Rattle.permit_model.specs.Codes.{is_stage, is_timing}
use Rattle.permit_model.specs.Search.{is_the_party}
use Rattle.permit_model.specs.Days.{timing_on}
use Rattle.permit_model.specs.Facts.{holds, no_relations, past_stage}
use Rattle.permit_model.specs.Listing.{meets}
use Rattle.permit_model.specs.SoundState.{is_stored, is_timed}
use Rattle.permit_model.specs.Opened.{Cell, same_truth, Allowed, only, all_pairs, allowed_as_two, has_both}
use Rattle.permit_model.specs.Tables.{State, FileRow, Tables}

-- ---- the cells of the rows that are kept

-- a file with a deadline is past, near or ahead of it; one without has no timing
abbrev pub timings_of : Stage → List Timing
timings_of s = if is_timed s then Past ∷ Near ∷ Ahead ∷ [] else Untimed ∷ []

-- the cells of a stage that is kept, stopped or not
abbrev pub kept_cells_of : Stage → Bool → List Cell
kept_cells_of s b = map (λ t. record { stage = s; stopped = b; timing = t }) (timings_of s)

-- the 44 cells of kept rows, by the codes of stage, stopped and timing
abbrev pub kept_cells : List Cell
kept_cells = flat_map (λ s. flat_map (kept_cells_of s) (false ∷ true ∷ [])) (filter is_stored all_stages)

-- the stage on the day of a row with this timing
abbrev pub stage_by_timing : Stage → Timing → Stage
stage_by_timing s t = if is_timing Past t then past_stage s else s

-- the cell on the day of the rows in a kept cell
abbrev pub cell_on_day : Cell → Cell
cell_on_day cell = record cell { stage = stage_by_timing cell.stage cell.timing }

-- ---- routes

-- the selection of these files of the kept cell
abbrev pub route_by : Cell → By → Route
route_by cell files = route.Cell files cell.stage cell.stopped cell.timing

-- the selections of a kept cell: whole where no relation is wanted, else by each relation that is allowed alone, and
-- then by each two that are allowed as two
abbrev pub routes_in : Allowed → Cell → List Route
routes_in allowed cell =
    let may = allowed (cell_on_day cell) in
    if may no_relations then route_by cell by.Whole ∷ []
    else map (λ r. route_by cell (by.One r)) (filter (λ r. may (only r)) all_relations)
    ++ map (λ pair. route_by cell (by.Two pair.0 pair.1)) (filter (allowed_as_two may) all_pairs)

-- the cell meets the filter on the day
abbrev pub cell_meets : Filter → Cell → Bool
cell_meets wanted cell = meets wanted (cell_on_day cell).stage cell.timing

-- no relation is wanted in the kept cell
abbrev pub is_open_to_all : Allowed → Cell → Bool
is_open_to_all allowed cell = allowed (cell_on_day cell) no_relations

-- whether each file is wanted
abbrev pub is_all : Filter → Bool
is_all All = true
is_all (InStage s) = false
is_all Due = false

-- the selections of a listing: one of each row where nothing is wanted, neither of the file nor of the caller, else those
-- of each kept cell that meets the filter
abbrev pub routes_of : Allowed → Filter → List Route
routes_of allowed wanted =
    if is_all wanted && list_all (is_open_to_all allowed) kept_cells
    then route.Every ∷ []
    else flat_map (routes_in allowed) (filter (cell_meets wanted) kept_cells)

-- ---- the rows that a selection finds

-- a file's row, with its parcel's owner and whether the caller has an interest in the parcel
pub record Found : Type 0 where
  pub row : FileRow
  pub owner : Option ℕ
  pub conflict : Bool

-- the parcel's owner in the tables, if it is there
abbrev pub owner_in : Tables → ℕ → Option ℕ
owner_in t parcel = option_map (λ p. p.owner) (find (λ p. p.id == parcel) t.parcels)

-- whether the party has an interest in the parcel in the tables
abbrev pub has_interest_in : Tables → ℕ → ℕ → Bool
has_interest_in t parcel party = list_any (λ i. (i.parcel == parcel) && (i.party == party)) t.interests

-- a row as it is found for the caller
abbrev pub found_row : Tables → ℕ → FileRow → Found
found_row t caller row = record { row = row; owner = owner_in t row.state.parcel; conflict = has_interest_in t row.state.parcel caller }

-- what the caller is to a file that is found
abbrev pub relations_found : ℕ → Found → Relations
relations_found caller found = record {
  applicant = found.row.state.applicant == caller;
  contractor = is_the_party found.row.state.contractor caller;
  owner = is_the_party found.owner caller;
  assigned_reviewer = is_the_party found.row.state.reviewer caller;
  assigned_inspector = is_the_party found.row.state.inspector caller;
  conflict = found.conflict;
}

-- whether these relations are asked for
abbrev pub is_by : By → Relations → Bool
is_by by.Whole set = true
is_by (by.One r) set = holds set r
is_by (by.Two a b) set = has_both set (a, b)

-- whether the row is kept in the stage, stopped or not, with the timing on the day
abbrev pub is_kept_in : Stage → Bool → Timing → ℕ → State → Bool
is_kept_in s b t day state = is_stage s state.stage && same_truth b state.stopped && is_timing t (timing_on day state.deadline)

-- whether the selection finds the row for the caller on the day
abbrev pub is_found : Route → ℕ → ℕ → Found → Bool
is_found route.Every caller day found = true
is_found (route.Cell files s b t) caller day found = is_kept_in s b t day found.row.state && is_by files (relations_found caller found)

-- the rows that the selection finds, in the order in which they are kept
abbrev pub found_by : Route → ℕ → ℕ → Tables → List Found
found_by selection caller day t = filter (is_found selection caller day) (map (found_row t caller) t.files)
