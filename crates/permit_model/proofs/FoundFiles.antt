-- How many of a listing's selections find the row of a file, and what they say of it.
use Rattle.std.proofs.Common.{arith, ◌≡◌, ℕ, Bool, true, false, not, ◌&&◌, cond, List, [], ◌∷◌, ◌++◌, map, refl, sym, ◌∙◌, ap}
use Rattle.std.specs.Prelude.{if◌then◌else◌, filter, ◌==◌}
use Rattle.std.specs.List.{flat_map, list_all}
use Rattle.permit_base.specs.declared.words.Role.{Role}
use Rattle.permit_base.specs.declared.words.Stage.{Stage}
use Rattle.permit_base.specs.declared.words.Timing.{Timing}
use Rattle.permit_base.specs.declared.words.Timing.TheVariants.{Untimed, Past, Near, Ahead}
use Rattle.permit_base.specs.declared.words.Relation.{Relation}
use Rattle.permit_base.specs.declared.words.Relations.{Relations}
use Rattle.permit_base.specs.declared.words.Action.TheVariants as action
use Rattle.permit_base.specs.declared.request.Filter.{Filter}
use Rattle.permit_base.specs.declared.route.By.{By}
use Rattle.permit_base.specs.declared.route.By.TheVariants as by
use Rattle.permit_base.specs.declared.route.Route.TheVariants as route
use Rattle.permit_base.specs.Words.{all_relations}
use Rattle.permit_model.specs.Codes.{is_stage, is_timing, timing_code}
use Rattle.permit_model.specs.Search.{how_many}
use Rattle.permit_model.specs.Days.{timing_on, is_past}
use Rattle.permit_model.specs.History.{History}
use Rattle.permit_model.specs.Files.{CaseFile}
use Rattle.permit_model.specs.Facts.{Facts, no_relations, past_stage}
use Rattle.permit_model.specs.Tables.{State, file_row, FileView, tables}
use Rattle.permit_model.specs.SoundState.{is_stored, is_timed, deadline_stands}
use Rattle.permit_model.specs.Listing.{meets}
use Rattle.permit_model.specs.Opened.{Cell, cells, same_truth, Allowed, only, Pair, all_pairs, allowed_as_two}
use Rattle.permit_model.specs.Routes.{kept_cells, cell_on_day, route_by, routes_in, cell_meets, is_open_to_all, is_all, routes_of, Found, found_row}
use Rattle.permit_model.specs.Routes.{relations_found, is_by, is_found}
use Rattle.permit_model.proofs.Stages.{same_stage}
use Rattle.std.proofs.lemmas.Bool.{eqb-true}
use Rattle.permit_model.proofs.Selecting.{bit, how_many-map, how_many-gate, counted_home, all_home, mapped_both}

-- ---- what the row says

-- the cell on the day of a row that is kept
abbrev pub day_cell : ℕ → State → Cell
day_cell day state = record {
  stage = if is_past day state.deadline then past_stage state.stage else state.stage;
  stopped = state.stopped;
  timing = timing_on day state.deadline;
}

-- the facts by which a found row is listed
abbrev pub found_facts : Role → ℕ → ℕ → Found → Facts
found_facts role day caller found = record {
  role = role;
  relations = relations_found caller found;
  action = action.List;
  stage = if is_past day found.row.state.deadline then past_stage found.row.state.stage else found.row.state.stage;
  stopped = found.row.state.stopped;
  timing = timing_on day found.row.state.deadline;
}

-- a found row as it is shown on a day
abbrev pub found_view : ℕ → Found → FileView
found_view day found =
    record {
      row = found.row;
      stage = if is_past day found.row.state.deadline then past_stage found.row.state.stage else found.row.state.stage;
      timing = timing_on day found.row.state.deadline;
    }

-- a file's row as it is found
abbrev pub found_file : History → ℕ → CaseFile → Found
found_file h caller file = found_row (tables h) caller (file_row file)

-- ---- the selections of one cell

-- by which files are selected, for what is allowed in the cell
abbrev pub ways : (Relations → Bool) → List By
ways may = if may no_relations then by.Whole ∷ [] else map by.One (filter (λ r. may (only r)) all_relations)
    ++ map (λ (pair : Pair). by.Two pair.0 pair.1) (filter (allowed_as_two may) all_pairs)

-- how many of them hold of these relations
abbrev pub times : (Relations → Bool) → Relations → ℕ
times may set = how_many (λ b. is_by b set) (ways may)

mapped_twice : {A B C : Type 0} (f : B → C) (g : A → B) (k : A → C) → ((x : A) → f (g x) ≡ k x) → (xs : List A) → map k xs ≡ map f (map g xs)
mapped_twice f g k same [] = refl
mapped_twice f g k same (x ∷ xs) = ap (λ y. y ∷ map k xs) (sym (same x)) ∙ ap (λ ys. f (g x) ∷ ys) (mapped_twice f g k same xs)

ways_by : (cell : Cell) (ones : List Relation) (twos : List Pair) (b : Bool) →
    (if b then route_by cell by.Whole ∷ [] else map (λ r. route_by cell (by.One r)) ones ++ map (λ (pair : Pair). route_by cell (by.Two pair.0 pair.1)) twos)
    ≡ map (route_by cell) (if b then by.Whole ∷ [] else map by.One ones ++ map (λ (pair : Pair). by.Two pair.0 pair.1) twos)
ways_by cell ones twos b = grind (arith, mapped_twice, mapped_both)

routes_by_ways : (allowed : Allowed) (cell : Cell) → routes_in allowed cell ≡ map (route_by cell) (ways (allowed (cell_on_day cell)))
routes_by_ways allowed cell = grind (arith, ways_by)

-- ---- marked cells

-- whether the cell has this stage and timing, and is stopped or not
abbrev pub marks : Stage → Bool → Timing → Cell → Bool
marks s b t cell = is_stage cell.stage s && same_truth cell.stopped b && is_timing cell.timing t

-- the timing of a code
abbrev pub timing_coded : ℕ → Timing
timing_coded code = if code == 0 then Untimed else if code == 1 then Past else if code == 2 then Near else Ahead

timing_back : (t : Timing) → timing_coded (timing_code t) ≡ t
timing_back t = grind arith

same_timing : (a b : Timing) → is_timing a b ≡ true → a ≡ b
same_timing a b e = sym (timing_back a) ∙ ap timing_coded (eqb-true (timing_code a) (timing_code b) e) ∙ timing_back b

same_bool : (a b : Bool) → same_truth a b ≡ true → a ≡ b
same_bool a b e = grind arith

home_of : (s : Stage) (b : Bool) (t : Timing) (cell : Cell) (x y z : Bool) → is_stage cell.stage s ≡ x → same_truth cell.stopped b ≡ y →
    is_timing cell.timing t ≡ z → (x && y && z) ≡ true →
    cell ≡ record { stage = s; stopped = b; timing = t }
home_of s b t cell true true true e f g h =
    let first : cell ≡ record { stage = s; stopped = cell.stopped; timing = cell.timing } =
    ap (λ v. record { stage = v; stopped = cell.stopped; timing = cell.timing }) (same_stage cell.stage s e) in
    let second : record { stage = s; stopped = cell.stopped; timing = cell.timing } ≡ record { stage = s; stopped = b; timing = cell.timing } =
    ap (λ v. record { stage = s; stopped = v; timing = cell.timing }) (same_bool cell.stopped b f) in
    first ∙ second ∙ ap (λ v. record { stage = s; stopped = b; timing = v }) (same_timing cell.timing t g)
home_of s b t cell true true false e f g h = cc
home_of s b t cell true false z e f g h = cc
home_of s b t cell false y z e f g h = cc

-- a cell that is marked is that cell
pub marked_home : (s : Stage) (b : Bool) (t : Timing) (cell : Cell) → marks s b t cell ≡ true → cell ≡ record { stage = s; stopped = b; timing = t }
marked_home s b t cell h = home_of s b t cell (is_stage cell.stage s) (same_truth cell.stopped b) (is_timing cell.timing t) refl refl refl h

-- each cell is there once
pub cell_once : (s : Stage) (b : Bool) (t : Timing) → how_many (marks s b t) cells ≡ 1
cell_once s b t = grind arith

-- whether a row that is kept in the stage has such a timing
abbrev pub fits : Stage → Timing → Bool
fits s t = if is_timed s then not (is_timing Untimed t) else is_timing Untimed t

-- each kept cell is there once, and no other
pub kept_cell_once : (s : Stage) (b : Bool) (t : Timing) → how_many (marks s b t) kept_cells ≡ bit (is_stored s && fits s t)
kept_cell_once s b t = grind arith

-- ---- the row's own cell

-- the cell in which the row is kept
abbrev pub kept_cell : ℕ → State → Cell
kept_cell day state = record { stage = state.stage; stopped = state.stopped; timing = timing_on day state.deadline }

-- its cell on the day is the row's
cell_of_day : (day : ℕ) (state : State) → cell_on_day (kept_cell day state) ≡ day_cell day state
cell_of_day day state = grind arith

-- what a sound row keeps to that selections need: its stage is a stored one, and there is a deadline where there can be one
abbrev pub IsKept : State → Type 0
IsKept state = (is_stored state.stage ≡ true) × (deadline_stands state ≡ true)

kept_once : (day : ℕ) (state : State) → IsKept state → how_many (marks state.stage state.stopped (timing_on day state.deadline)) kept_cells ≡ 1
kept_once day state kept = grind arith

-- ---- how many selections find the row

in_cell : (allowed : Allowed) (caller day : ℕ) (found : Found) (cell : Cell) →
    how_many (λ r. is_found r caller day found) (routes_in allowed cell)
    ≡ cond (marks found.row.state.stage found.row.state.stopped (timing_on day found.row.state.deadline) cell)
    (times (allowed (cell_on_day cell)) (relations_found caller found)) 0
in_cell allowed caller day found cell =
    ap (how_many (λ r. is_found r caller day found)) (routes_by_ways allowed cell)
    ∙ how_many-map (route_by cell) (λ r. is_found r caller day found) (ways (allowed (cell_on_day cell)))
    ∙ how_many-gate (marks found.row.state.stage found.row.state.stopped (timing_on day found.row.state.deadline) cell)
    (λ b. is_by b (relations_found caller found)) (ways (allowed (cell_on_day cell)))

pub times_open : (may : Relations → Bool) (set : Relations) → may no_relations ≡ true → times may set ≡ 1
times_open may set free = rw free refl

-- how many selections of the filter hold of a row in this cell on the day
abbrev pub times_in : Allowed → Filter → Cell → Relations → ℕ
times_in allowed wanted cell set = cond (meets wanted cell.stage cell.timing) (times (allowed cell) set) 0

by_every : (allowed : Allowed) (wanted : Filter) (cell : Cell) (set : Relations) → is_all wanted ≡ true → allowed cell no_relations ≡ true →
    1 ≡ times_in allowed wanted cell set
by_every allowed wanted cell set e free = grind arith

pub left_of : (a b : Bool) → (a && b) ≡ true → a ≡ true
left_of a b h = grind arith

pub right_of : (a b : Bool) → (a && b) ≡ true → b ≡ true
right_of a b h = grind arith

finders_by : (allowed : Allowed) (wanted : Filter) (caller day : ℕ) (found : Found) → IsKept found.row.state → (b : Bool) →
    (is_all wanted && list_all (is_open_to_all allowed) kept_cells) ≡ b →
    how_many (λ r. is_found r caller day found) (if b then route.Every ∷ [] else flat_map (routes_in allowed) (filter (cell_meets wanted) kept_cells))
    ≡ times_in allowed wanted (day_cell day found.row.state) (relations_found caller found)
finders_by allowed wanted caller day found kept true e =
    let state = found.row.state in
    let free : is_open_to_all allowed (kept_cell day state) ≡ true =
    all_home (is_open_to_all allowed) (marks state.stage state.stopped (timing_on day state.deadline)) (kept_cell day state)
    (marked_home state.stage state.stopped (timing_on day state.deadline))
    kept_cells (right_of (is_all wanted) (list_all (is_open_to_all allowed) kept_cells) e) (kept_once day state kept) in
    by_every allowed wanted (day_cell day state) (relations_found caller found) (left_of (is_all wanted) (list_all (is_open_to_all allowed) kept_cells) e)
    (ap (λ cell. allowed cell no_relations) (sym (cell_of_day day state)) ∙ free)
finders_by allowed wanted caller day found kept false e =
    let state = found.row.state in
    counted_home (routes_in allowed) (λ r. is_found r caller day found) (marks state.stage state.stopped (timing_on day state.deadline)) (cell_meets wanted)
    (λ cell. times (allowed (cell_on_day cell)) (relations_found caller found)) (kept_cell day state)
    (marked_home state.stage state.stopped (timing_on day state.deadline))
    (in_cell allowed caller day found) kept_cells (kept_once day state kept)
    ∙ ap (λ cell. cond (meets wanted cell.stage (timing_on day state.deadline)) (times (allowed cell) (relations_found caller found)) 0) (cell_of_day day state)

-- how many selections of a listing find a row that is kept
pub finders : (allowed : Allowed) (wanted : Filter) (caller day : ℕ) (found : Found) → IsKept found.row.state →
    how_many (λ r. is_found r caller day found) (routes_of allowed wanted)
    ≡ times_in allowed wanted (day_cell day found.row.state) (relations_found caller found)
finders allowed wanted caller day found kept = grind (arith, finders_by)
