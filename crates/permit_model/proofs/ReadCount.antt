-- The rows that a listing's selections find are the rows that it may open, as often.
use Rattle.std.proofs.Common.{◌≡◌, ◌≤◌, ℕ, ◌*◌, Bool, true, false, ◌&&◌, cond, List, [], ◌∷◌, ◌++◌, map, length, sym, ◌∙◌, ap, subst, arith}
use Rattle.std.specs.Prelude.{if◌then◌else◌, filter, IsPermutation}
use Rattle.std.specs.List.{flat_map, sum_by}
use Rattle.std.proofs.lemmas.List.{append-nil, length-map}
use Rattle.std.proofs.lemmas.List.Concat.{length-flat_map}
use Rattle.std.proofs.lemmas.List.Elements.{filter_agree}
use Rattle.std.proofs.lemmas.List.Folds.{flat_map-map}
use Rattle.std.proofs.lemmas.List.Sorted.{IsPermutation-map, length_permutation}
use Rattle.std.proofs.lemmas.Grind.{flat_map-append}
use Rattle.permit_base.specs.declared.words.Relations.{Relations}
use Rattle.permit_base.specs.declared.words.Action.TheVariants as action
use Rattle.permit_base.specs.declared.request.Filter.{Filter}
use Rattle.permit_base.specs.declared.route.By.{By}
use Rattle.permit_base.specs.declared.route.By.TheVariants as by
use Rattle.permit_base.specs.declared.route.Route.{Route}
use Rattle.permit_base.specs.Limits.{most_records}
use Rattle.permit_base.specs.Words.{all_relations}
use Rattle.permit_model.specs.Search.{how_many}
use Rattle.permit_model.specs.History.{History}
use Rattle.permit_model.specs.Caller.{Party}
use Rattle.permit_model.specs.Files.{CaseFile, case_files}
use Rattle.permit_model.specs.Work.{is_stopped}
use Rattle.permit_model.specs.Facts.{holds, no_relations, stage_on, timing_of, relations_to_file}
use Rattle.permit_model.specs.Policy.{Policy}
use Rattle.permit_model.specs.Tables.{file_row, state_of, tables}
use Rattle.permit_model.specs.Listing.{meets}
use Rattle.permit_model.specs.Opened.{Cell, cells, is_in, Allowed, allowed_by, only, Pair, all_pairs, allowed_as_two, has_both, opened_by_one, opened_by_two}
use Rattle.permit_model.specs.Opened.{opened_of, opened_in, opened}
use Rattle.permit_model.specs.Routes.{Found, routes_of, is_by, is_found, found_by}
use Rattle.permit_model.specs.Machine.{IsHistory}
use Rattle.permit_model.proofs.Selecting.{how_many-map, how_many-gate, counted_home, flat_filter, flat_agree, everywhere, selected, same_selected, filter_twice}
use Rattle.permit_model.proofs.Selecting.{filter_mapped, mapped_back, flat_mapped, flat_flat, few_copies}
use Rattle.permit_model.proofs.FewFiles.{few_files}
use Rattle.permit_model.proofs.FoundFiles.{found_file, ways, times, marks, marked_home, cell_once, day_cell, times_in}
use Rattle.permit_model.proofs.NoneMissed.{times_most, finders_of_file}

-- ---- what may be opened, by ways

and_true : (b : Bool) → b ≡ (b && true)
and_true b = grind arith

-- the files of a cell that are selected in this way
abbrev pub in_way : (CaseFile → Relations) → (CaseFile → Bool) → List CaseFile → By → List CaseFile
in_way relations here files way = filter (λ file. here file && is_by way (relations file)) files

-- one part of what is opened is that part of the ways
part_is : {A : Type 0} (may : A → Bool) (held : A → CaseFile → Bool) (here : CaseFile → Bool) (files : List CaseFile) (items : List A) →
    flat_map (λ x. cond (may x) (filter (held x) (filter here files)) []) items
    ≡ flat_map (λ x. filter (λ file. here file && held x file) files) (filter may items)
part_is may held here files items = grind (arith, flat_agree, everywhere, filter_twice, flat_filter)

opened_by : (may : Relations → Bool) (relations : CaseFile → Relations) (here : CaseFile → Bool) (files : List CaseFile) (b : Bool) →
    (if b then filter here files else flat_map (opened_by_one may relations (filter here files)) all_relations
    ++ flat_map (opened_by_two may relations (filter here files)) all_pairs)
    ≡ flat_map (in_way relations here files) (if b then by.Whole ∷ [] else map by.One (filter (λ r. may (only r)) all_relations)
    ++ map (λ (pair : Pair). by.Two pair.0 pair.1) (filter (allowed_as_two may) all_pairs))
opened_by may relations here files true = filter_agree here (λ file. here file && true) (λ file. and_true (here file)) files
    ∙ sym (append-nil (filter (λ file. here file && true) files))
opened_by may relations here files false =
    let ones = filter (λ r. may (only r)) all_relations in
    let twos = filter (allowed_as_two may) all_pairs in
    let first : flat_map (opened_by_one may relations (filter here files)) all_relations ≡ flat_map (in_way relations here files) (map by.One ones) =
    part_is (λ r. may (only r)) (λ r file. holds (relations file) r) here files all_relations ∙ sym (flat_map-map (in_way relations here files) by.One ones) in
    let second : flat_map (opened_by_two may relations (filter here files)) all_pairs
    ≡ flat_map (in_way relations here files) (map (λ (pair : Pair). by.Two pair.0 pair.1) twos) =
    part_is (allowed_as_two may) (λ pair file. has_both (relations file) pair) here files all_pairs
    ∙ sym (flat_map-map (in_way relations here files) (λ (pair : Pair). by.Two pair.0 pair.1) twos) in
    ap (λ ys. ys ++ flat_map (opened_by_two may relations (filter here files)) all_pairs) first
    ∙ ap (λ ys. flat_map (in_way relations here files) (map by.One ones) ++ ys) second
    ∙ sym (flat_map-append (in_way relations here files) (map by.One ones) (map (λ (pair : Pair). by.Two pair.0 pair.1) twos))

opened_by_ways : (may : Relations → Bool) (relations : CaseFile → Relations) (here : CaseFile → Bool) (files : List CaseFile) →
    opened_of may relations (filter here files) ≡ flat_map (in_way relations here files) (ways may)
opened_by_ways may relations here files = opened_by may relations here files (may no_relations)

-- ---- cells of the day, each with its ways

-- a cell on the day and a way
abbrev pub CellWay : Type 0
CellWay = Cell × By

abbrev pub ways_in : Allowed → Cell → List CellWay
ways_in allowed cell = map (λ way. (cell, way)) (ways (allowed cell))

-- the ways of all cells that meet the filter
abbrev pub day_ways : Allowed → Filter → List CellWay
day_ways allowed wanted = flat_map (ways_in allowed) (filter (λ cell. meets wanted cell.stage cell.timing) cells)

-- whether the file lies in the cell on the day, and is selected in the way
abbrev pub is_at : History → ℕ → ℕ → CellWay → CaseFile → Bool
is_at h day caller place file = is_in day place.0 file && is_by place.1 (relations_to_file h caller file)

opened_in_ways : (policy : Policy) (h : History) (day : ℕ) (caller : Party) (cell : Cell) →
    opened_in policy h day caller cell ≡ flat_map (λ place. filter (is_at h day caller.id place) (case_files h))
    (ways_in (allowed_by policy caller.role action.List) cell)
opened_in_ways policy h day caller cell =
    opened_by_ways (allowed_by policy caller.role action.List cell) (relations_to_file h caller.id) (is_in day cell) (case_files h)
    ∙ sym (flat_map-map (λ place. filter (is_at h day caller.id place) (case_files h)) (λ way. (cell, way))
    (ways (allowed_by policy caller.role action.List cell)))

opened_ways : (policy : Policy) (h : History) (day : ℕ) (caller : Party) (wanted : Filter) →
    opened policy h day caller wanted ≡ flat_map (λ place. filter (is_at h day caller.id place) (case_files h))
    (day_ways (allowed_by policy caller.role action.List) wanted)
opened_ways policy h day caller wanted =
    let allowed = allowed_by policy caller.role action.List in
    let places = filter (λ cell. meets wanted cell.stage cell.timing) cells in
    flat_agree (opened_in policy h day caller) (λ cell. flat_map (λ place. filter (is_at h day caller.id place) (case_files h)) (ways_in allowed cell)) places
    (everywhere (λ cell. opened_in policy h day caller cell ≡ flat_map (λ place. filter (is_at h day caller.id place) (case_files h)) (ways_in allowed cell))
    (opened_in_ways policy h day caller) places)
    ∙ sym (flat_flat (λ place. filter (is_at h day caller.id place) (case_files h)) (ways_in allowed) places)

at_cell : (allowed : Allowed) (h : History) (day caller : ℕ) (file : CaseFile) (cell : Cell) →
    how_many (λ place. is_at h day caller place file) (ways_in allowed cell)
    ≡ cond (marks (stage_on day file) (is_stopped file.acts) (timing_of day file) cell) (times (allowed cell) (relations_to_file h caller file)) 0
at_cell allowed h day caller file cell =
    how_many-map (λ way. (cell, way)) (λ (place : CellWay). is_at h day caller place file) (ways (allowed cell))
    ∙ how_many-gate (marks (stage_on day file) (is_stopped file.acts) (timing_of day file) cell) (λ way. is_by way (relations_to_file h caller file))
    (ways (allowed cell))

-- how often the file may be opened
openers : (allowed : Allowed) (wanted : Filter) (h : History) (day caller : ℕ) (file : CaseFile) →
    how_many (λ place. is_at h day caller place file) (day_ways allowed wanted)
    ≡ times_in allowed wanted (day_cell day (state_of file)) (relations_to_file h caller file)
openers allowed wanted h day caller file =
    counted_home (ways_in allowed) (λ place. is_at h day caller place file) (marks (stage_on day file) (is_stopped file.acts) (timing_of day file))
    (λ cell. meets wanted cell.stage cell.timing)
    (λ cell. times (allowed cell) (relations_to_file h caller file)) (day_cell day (state_of file))
    (marked_home (stage_on day file) (is_stopped file.acts) (timing_of day file))
    (at_cell allowed h day caller file) cells (cell_once (stage_on day file) (is_stopped file.acts) (timing_of day file))

-- ---- the rows found

-- the files whose rows the selection finds
abbrev pub files_found : History → ℕ → ℕ → Route → List CaseFile
files_found h day caller r = filter (λ file. is_found r caller day (found_file h caller file)) (case_files h)

rows_found : (h : History) (day caller : ℕ) (r : Route) → map (λ (f : Found). f.row) (found_by r caller day (tables h))
    ≡ map file_row (files_found h day caller r)
rows_found h day caller r = grind (arith, filter_mapped, mapped_back)

all_rows_found : (h : History) (day caller : ℕ) (routes : List Route) →
    flat_map (λ r. map (λ (f : Found). f.row) (found_by r caller day (tables h))) routes ≡ map file_row (flat_map (files_found h day caller) routes)
all_rows_found h day caller routes =
    flat_agree (λ r. map (λ (f : Found). f.row) (found_by r caller day (tables h))) (λ r. map file_row (files_found h day caller r)) routes
    (everywhere (λ r. map (λ (f : Found). f.row) (found_by r caller day (tables h)) ≡ map file_row (files_found h day caller r))
    (rows_found h day caller) routes)
    ∙ flat_mapped file_row (files_found h day caller) routes

same_files : (policy : Policy) (h : History) (day : ℕ) (caller : Party) (wanted : Filter) →
    IsPermutation (flat_map (files_found h day caller.id) (routes_of (allowed_by policy caller.role action.List) wanted)) (opened policy h day caller wanted)
same_files policy h day caller wanted =
    let allowed = allowed_by policy caller.role action.List in
    subst (IsPermutation (flat_map (files_found h day caller.id) (routes_of allowed wanted))) (sym (opened_ways policy h day caller wanted))
    (same_selected (λ r file. is_found r caller.id day (found_file h caller.id file)) (is_at h day caller.id) (routes_of allowed wanted)
    (day_ways allowed wanted) (case_files h)
    (everywhere (λ file. how_many (λ r. is_found r caller.id day (found_file h caller.id file)) (routes_of allowed wanted)
    ≡ how_many (λ place. is_at h day caller.id place file) (day_ways allowed wanted))
    (λ file. finders_of_file policy h day caller wanted file ∙ sym (openers allowed wanted h day caller.id file)) (case_files h)))

-- the rows that the selections find are the rows that may be opened, as often
pub same_rows : (policy : Policy) (h : History) (day : ℕ) (caller : Party) (wanted : Filter) →
    IsPermutation (flat_map (λ r. map (λ (f : Found). f.row) (found_by r caller.id day (tables h)))
    (routes_of (allowed_by policy caller.role action.List) wanted)) (map file_row (opened policy h day caller wanted))
same_rows policy h day caller wanted =
    let routes = routes_of (allowed_by policy caller.role action.List) wanted in
    subst (λ rows. IsPermutation rows (map file_row (opened policy h day caller wanted))) (sym (all_rows_found h day caller.id routes))
    (IsPermutation-map file_row (flat_map (files_found h day caller.id) routes) (opened policy h day caller wanted) (same_files policy h day caller wanted))

-- so many rows are found as may be opened
pub same_count : (policy : Policy) (h : History) (day : ℕ) (caller : Party) (wanted : Filter) →
    length (flat_map (λ r. found_by r caller.id day (tables h)) (routes_of (allowed_by policy caller.role action.List) wanted))
    ≡ length (opened policy h day caller wanted)
same_count policy h day caller wanted =
    let routes = routes_of (allowed_by policy caller.role action.List) wanted in
    let all = flat_map (λ r. found_by r caller.id day (tables h)) routes in
    sym (length-map all (λ (f : Found). f.row))
    ∙ ap length (sym (flat_mapped (λ (f : Found). f.row) (λ r. found_by r caller.id day (tables h)) routes))
    ∙ sym (length_permutation (flat_map (λ r. map (λ (f : Found). f.row) (found_by r caller.id day (tables h))) routes)
    (map file_row (opened policy h day caller wanted)) (same_rows policy h day caller wanted))
    ∙ length-map (opened policy h day caller wanted) file_row

-- and the sum over the selections is as many
pub same_sum : (policy : Policy) (h : History) (day : ℕ) (caller : Party) (wanted : Filter) →
    sum_by (λ r. length (found_by r caller.id day (tables h))) (routes_of (allowed_by policy caller.role action.List) wanted)
    ≡ length (opened policy h day caller wanted)
same_sum policy h day caller wanted =
    sym (length-flat_map (λ r. found_by r caller.id day (tables h)) (routes_of (allowed_by policy caller.role action.List) wanted))
    ∙ same_count policy h day caller wanted

-- ---- how many rows may be opened

few_in : (b : Bool) (n : ℕ) → n ≤ 21 → cond b n 0 ≤ 21
few_in b n few = grind arith

-- each file is opened at most once for each relation and each two
pub few_openings : (policy : Policy) (h : History) (day : ℕ) (caller : Party) (wanted : Filter) →
    length (opened policy h day caller wanted) ≤ 21 * length (case_files h)
few_openings policy h day caller wanted =
    let allowed = allowed_by policy caller.role action.List in
    let moved = selected (is_at h day caller.id) (day_ways allowed wanted) (case_files h) in
    let few = few_copies (is_at h day caller.id) (day_ways allowed wanted)
    (λ file. subst (λ n. n ≤ 21) (sym (openers allowed wanted h day caller.id file))
    (few_in (meets wanted (stage_on day file) (timing_of day file)) (times (allowed (day_cell day (state_of file))) (relations_to_file h caller.id file))
    (times_most (allowed (day_cell day (state_of file))) (relations_to_file h caller.id file))))
    (case_files h) in
    omega (arith, ap length (opened_ways policy h day caller wanted), length_permutation _ _ moved, few)

pub few_opened : (policy : Policy) (h : History) (day : ℕ) (caller : Party) (wanted : Filter) → IsHistory h →
    length (opened policy h day caller wanted) ≤ 21 * most_records
few_opened policy h day caller wanted is = omega (arith, few_openings policy h day caller wanted, few_files h is)
