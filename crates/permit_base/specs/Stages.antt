-- What the rules say of each stage, one line a stage: the department's table of stages.
use Rattle.std.specs.Prelude.{Bool, true, false}
use Rattle.permit_base.specs.declared.words.Stage.{Stage}
use Rattle.permit_base.specs.declared.words.Stage.TheVariants as stage
use Rattle.permit_base.specs.declared.stages.Expiry.{Expiry}
use Rattle.permit_base.specs.declared.stages.Expiry.TheVariants.{Never, Application, Permit}
use Rattle.permit_base.specs.declared.stages.StageFacts.{StageFacts}

-- a stage that a row keeps, and of which nothing else is so
abbrev pub plain : StageFacts
plain = record {
  of_file = true;
  stored = true;
  expiry = Never;
  complete = false;
  certified = false;
  unissued = false;
  begun = false;
  stopped = false;
  occupied = false;
  reviewing = false;
  inspecting = false;
  stoppable = false;
  revocable = false;
}

-- what is so of each stage
abbrev pub stage_facts : Stage → StageFacts
stage_facts stage.Filed = record plain { expiry = Application; unissued = true; reviewing = true }
stage_facts stage.Review = record plain { expiry = Application; unissued = true; reviewing = true }
stage_facts stage.Returned = record plain { expiry = Application; unissued = true; reviewing = true }
stage_facts stage.Approved = record plain { expiry = Application; unissued = true; inspecting = true }
stage_facts stage.Rejected = record plain { unissued = true }
stage_facts stage.Issued = record plain { expiry = Permit; stopped = true; inspecting = true; stoppable = true; revocable = true }
stage_facts stage.Working =
    record plain { expiry = Permit; begun = true; stopped = true; occupied = true; inspecting = true; stoppable = true; revocable = true }
stage_facts stage.Revoked = record plain { begun = true; stopped = true; occupied = true; stoppable = true }
stage_facts stage.Finaled = record plain { complete = true; stopped = true; occupied = true; stoppable = true }
stage_facts stage.Certified = record plain { complete = true; certified = true; occupied = true }
stage_facts stage.Abandoned = record plain { stored = false }
stage_facts stage.Lapsed = record plain { stored = false; stoppable = true; revocable = true }
stage_facts stage.New = record plain { of_file = false; stored = false }
stage_facts stage.Office = record plain { of_file = false; stored = false }

-- each stage but the words of parcels and parties
abbrev pub is_file_stage : Stage → Bool
is_file_stage s = (stage_facts s).of_file

-- whether a deadline runs
abbrev pub is_running : Expiry → Bool
is_running Never = false
is_running Application = true
is_running Permit = true

-- what becomes of a stage once the deadline is past: an application is abandoned, and a permit lapsed
abbrev pub expired : Expiry → Stage → Stage
expired Never s = s
expired Application s = stage.Abandoned
expired Permit s = stage.Lapsed

-- the stage once the deadline is past
abbrev pub past_stage : Stage → Stage
past_stage s = expired (stage_facts s).expiry s
