-- The facts by which a policy decides, and the stage and timing on a day.
use Rattle.std.specs.Prelude.{ℕ, Bool, false, ◌==◌, if◌then◌else◌}
use Rattle.permit_base.specs.declared.words.Role.{Role}
use Rattle.permit_base.specs.declared.words.Stage.{Stage}
use Rattle.permit_base.specs.declared.words.Stage.TheVariants as stage
use Rattle.permit_base.specs.declared.words.Timing.{Timing}
use Rattle.permit_base.specs.declared.words.Timing.TheVariants.{Untimed}
use Rattle.permit_base.specs.declared.words.Relations.{Relations}
use Rattle.permit_base.specs.declared.words.Action.{Action}
pub use Rattle.permit_base.specs.Relations.{holds}
pub use Rattle.permit_base.specs.Stages.{past_stage}
use Rattle.permit_model.specs.Search.{is_the_party}
use Rattle.permit_model.specs.Days.{timing_on, is_past}
use Rattle.permit_model.specs.History.{History}
use Rattle.permit_model.specs.Caller.{Party}
use Rattle.permit_model.specs.Parcels.{owner, has_interest}
use Rattle.permit_model.specs.Files.{CaseFile}
use Rattle.permit_model.specs.People.{contractor, reviewer, inspector}
use Rattle.permit_model.specs.Work.{is_stopped}
use Rattle.permit_model.specs.BaseStage.{base_stage}
use Rattle.permit_model.specs.Deadline.{deadline}

-- the stage of a file on a day
abbrev pub stage_on : ℕ → CaseFile → Stage
stage_on day file = if is_past day (deadline file) then past_stage (base_stage file.acts) else base_stage file.acts

-- the timing of a file on a day
abbrev pub timing_of : ℕ → CaseFile → Timing
timing_of day file = timing_on day (deadline file)

-- the empty set
abbrev pub no_relations : Relations
no_relations = record { applicant = false; contractor = false; owner = false; assigned_reviewer = false; assigned_inspector = false; conflict = false }

-- what the caller is to a parcel
abbrev pub relations_to_parcel : History → ℕ → ℕ → Relations
relations_to_parcel h caller parcel = record {
  applicant = false;
  contractor = false;
  owner = is_the_party (owner h parcel) caller;
  assigned_reviewer = false;
  assigned_inspector = false;
  conflict = has_interest h parcel caller;
}

-- what the caller is to a file
abbrev pub relations_to_file : History → ℕ → CaseFile → Relations
relations_to_file h caller file = record {
  applicant = file.filing.applicant == caller;
  contractor = is_the_party (contractor file.acts) caller;
  owner = is_the_party (owner h file.filing.parcel) caller;
  assigned_reviewer = is_the_party (reviewer file.acts) caller;
  assigned_inspector = is_the_party (inspector file.acts) caller;
  conflict = has_interest h file.filing.parcel caller;
}

-- what the rules of a policy read
pub record Facts : Type 0 where
  pub role : Role
  pub relations : Relations
  pub action : Action
  pub stage : Stage
  pub stopped : Bool
  pub timing : Timing

-- the facts on the office, to which nobody has a relation
abbrev pub office_facts : Role → Action → Facts
office_facts role action = record { role = role; relations = no_relations; action = action; stage = stage.Office; stopped = false; timing = Untimed }

-- the facts on a parcel, whose stage word is new for a filing and office else
abbrev pub parcel_facts : History → Party → ℕ → Stage → Action → Facts
parcel_facts h caller parcel word action = record {
  role = caller.role;
  relations = relations_to_parcel h caller.id parcel;
  action = action;
  stage = word;
  stopped = false;
  timing = Untimed;
}

-- the facts on a file, on a day
abbrev pub file_facts : History → ℕ → Party → CaseFile → Action → Facts
file_facts h day caller file action = record {
  role = caller.role;
  relations = relations_to_file h caller.id file;
  action = action;
  stage = stage_on day file;
  stopped = is_stopped file.acts;
  timing = timing_of day file;
}
