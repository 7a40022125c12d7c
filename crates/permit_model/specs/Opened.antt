-- The file rows that a listing may open, counted as often as they come.
use Rattle.std.specs.Prelude.{ℕ, Bool, true, false, ◌&&◌, ◌||◌, not, if◌then◌else◌, List, [], ◌∷◌, ◌++◌, map, filter}
use Rattle.std.specs.List.{flat_map}
use Rattle.permit_base.specs.declared.words.Role.{Role}
use Rattle.permit_base.specs.declared.words.Stage.{Stage}
use Rattle.permit_base.specs.declared.words.Timing.{Timing}
use Rattle.permit_base.specs.declared.words.Relation.{Relation}
use Rattle.permit_base.specs.declared.words.Relation.TheVariants as relation
use Rattle.permit_base.specs.declared.words.Relations.{Relations}
use Rattle.permit_base.specs.declared.words.Action.{Action}
use Rattle.permit_base.specs.declared.words.Action.TheVariants as action
use Rattle.permit_base.specs.declared.request.Filter.{Filter}
use Rattle.permit_base.specs.Words.{all_stages, all_timings, all_relations}
use Rattle.permit_model.specs.Codes.{is_stage, is_timing, is_relation}
use Rattle.permit_model.specs.History.{History}
use Rattle.permit_model.specs.Caller.{Party}
use Rattle.permit_model.specs.Files.{CaseFile, case_files}
use Rattle.permit_model.specs.Work.{is_stopped}
use Rattle.permit_model.specs.Facts.{Facts, holds, no_relations, relations_to_file, stage_on, timing_of}
use Rattle.permit_model.specs.Policy.{Policy, allows}
use Rattle.permit_model.specs.Listing.{meets}

-- what of a file a listing's rules read, but for the relations
pub record Cell : Type 0 where
  pub stage : Stage
  pub stopped : Bool
  pub timing : Timing

-- the cells of a stage, stopped or not
abbrev pub cells_of : Stage → Bool → List Cell
cells_of s b = map (λ t. record { stage = s; stopped = b; timing = t }) all_timings

-- the 112 cells: 14 stages, stopped or not, four timings
abbrev pub cells : List Cell
cells = flat_map (λ s. flat_map (cells_of s) (false ∷ true ∷ [])) all_stages

-- whether two truth values are one
abbrev pub same_truth : Bool → Bool → Bool
same_truth a b = if a then b else not b

-- whether the file lies in the cell on the day
abbrev pub is_in : ℕ → Cell → CaseFile → Bool
is_in day cell file = is_stage cell.stage (stage_on day file) && same_truth cell.stopped (is_stopped file.acts) && is_timing cell.timing (timing_of day file)

-- the set of one relation
abbrev pub only : Relation → Relations
only r = record {
  applicant = is_relation r relation.Applicant;
  contractor = is_relation r relation.Contractor;
  owner = is_relation r relation.Owner;
  assigned_reviewer = is_relation r relation.AssignedReviewer;
  assigned_inspector = is_relation r relation.AssignedInspector;
  conflict = is_relation r relation.Conflict;
}

-- two relations, the one of the lower code first
abbrev pub Pair : Type 0
Pair = Relation × Relation

-- each two of a list, in its order
abbrev pub pairs_of : List Relation → List Pair
pairs_of [] = []
pairs_of (r ∷ rs) = map (λ s. (r, s)) rs ++ pairs_of rs

-- the fifteen pairs, by the lower code and then the higher
abbrev pub all_pairs : List Pair
all_pairs = pairs_of all_relations

-- the set of two relations
abbrev pub both_of : Pair → Relations
both_of (a, b) = record {
  applicant = (only a).applicant || (only b).applicant;
  contractor = (only a).contractor || (only b).contractor;
  owner = (only a).owner || (only b).owner;
  assigned_reviewer = (only a).assigned_reviewer || (only b).assigned_reviewer;
  assigned_inspector = (only a).assigned_inspector || (only b).assigned_inspector;
  conflict = (only a).conflict || (only b).conflict;
}

-- ---- what a role may do in a cell

-- for which relations something is allowed in a cell
abbrev pub Allowed : Type 0
Allowed = Cell → Relations → Bool

-- the facts of an action in a cell with these relations
abbrev pub cell_facts : Role → Action → Cell → Relations → Facts
cell_facts role action cell relations = record {
  role = role;
  relations = relations;
  action = action;
  stage = cell.stage;
  stopped = cell.stopped;
  timing = cell.timing;
}

-- for which relations the policy allows the role the action
abbrev pub allowed_by : Policy → Role → Action → Allowed
allowed_by policy role action cell relations = allows policy (cell_facts role action cell relations)

-- whether the two are allowed together, and neither of them alone
abbrev pub allowed_as_two : (Relations → Bool) → Pair → Bool
allowed_as_two allowed pair = allowed (both_of pair) && not (allowed (only pair.0)) && not (allowed (only pair.1))

-- ---- the rows

-- whether the caller has both relations to the file
abbrev pub has_both : Relations → Pair → Bool
has_both set pair = holds set pair.0 && holds set pair.1

-- the files of a cell to which the caller has the relation, where it is allowed alone
abbrev pub opened_by_one : (Relations → Bool) → (CaseFile → Relations) → List CaseFile → Relation → List CaseFile
opened_by_one allowed relations files r = if allowed (only r) then filter (λ file. holds (relations file) r) files else []

-- the files of a cell to which the caller has both relations, where they are allowed as two
abbrev pub opened_by_two : (Relations → Bool) → (CaseFile → Relations) → List CaseFile → Pair → List CaseFile
opened_by_two allowed relations files pair = if allowed_as_two allowed pair then filter (λ file. has_both (relations file) pair) files else []

-- each file of the cell once where no relation is wanted, else once for each relation that is allowed alone, and once
-- for each two that are allowed as two
abbrev pub opened_of : (Relations → Bool) → (CaseFile → Relations) → List CaseFile → List CaseFile
opened_of allowed relations files =
    if allowed no_relations then files
    else flat_map (opened_by_one allowed relations files) all_relations ++ flat_map (opened_by_two allowed relations files) all_pairs

-- the rows of a cell on the day
abbrev pub opened_in : Policy → History → ℕ → Party → Cell → List CaseFile
opened_in policy h day caller cell =
    opened_of (allowed_by policy caller.role action.List cell) (relations_to_file h caller.id) (filter (is_in day cell) (case_files h))

-- the rows of all cells that meet the filter
abbrev pub opened : Policy → History → ℕ → Party → Filter → List CaseFile
opened policy h day caller wanted = flat_map (opened_in policy h day caller) (filter (λ cell. meets wanted cell.stage cell.timing) cells)
