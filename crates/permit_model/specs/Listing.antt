-- The files that a listing holds.
use Rattle.std.specs.Prelude.{ℕ, Bool, true, ◌&&◌, ◌||◌, List, map, filter}
use Rattle.permit_base.specs.declared.words.Stage.{Stage}
use Rattle.permit_base.specs.declared.words.Timing.{Timing}
use Rattle.permit_base.specs.declared.words.Timing.TheVariants.{Past, Near}
use Rattle.permit_base.specs.declared.words.Action.TheVariants as action
use Rattle.permit_base.specs.declared.words.RegisterKind.{RegisterKind}
use Rattle.permit_base.specs.declared.words.RegisterKind.TheVariants.{Files, Deadlines, Inspections}
use Rattle.permit_base.specs.declared.words.Stage.TheVariants.{Working}
use Rattle.permit_base.specs.declared.request.Filter.{Filter}
use Rattle.permit_base.specs.declared.request.Filter.TheVariants.{All, InStage, Due}
use Rattle.permit_model.specs.Codes.{is_stage, is_timing}
use Rattle.permit_model.specs.History.{History}
use Rattle.permit_model.specs.Caller.{Party}
use Rattle.permit_model.specs.Files.{CaseFile, case_files}
use Rattle.permit_model.specs.Facts.{stage_on, timing_of, file_facts}
use Rattle.permit_model.specs.Policy.{Policy, allows}
use Rattle.permit_model.specs.Tables.{FileView, file_view}

-- whether a stage and a timing meet the filter
abbrev pub meets : Filter → Stage → Timing → Bool
meets All s t = true
meets (InStage wanted) s t = is_stage wanted s
meets Due s t = is_timing Past t || is_timing Near t

-- the filter of a register
abbrev pub register_filter : RegisterKind → Filter
register_filter Files = All
register_filter Deadlines = Due
register_filter Inspections = InStage Working

-- whether the file meets the filter on the day, and its own facts allow the caller to list it
abbrev pub is_listed : Policy → History → ℕ → Party → Filter → CaseFile → Bool
is_listed policy h day caller wanted file = meets wanted (stage_on day file) (timing_of day file) && allows policy (file_facts h day caller file action.List)

-- the files of a listing, in the order of their numbers
abbrev pub listing : Policy → History → ℕ → Party → Filter → List FileView
listing policy h day caller wanted = map (file_view day) (filter (is_listed policy h day caller wanted) (case_files h))
