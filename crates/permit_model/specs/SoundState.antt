-- What each row of a file in the tables keeps to, whatever was done to the file.
use Rattle.std.specs.Prelude.{Bool, true, false, not, ◌&&◌, ◌||◌, ◌==◌, nat_le, if◌then◌else◌, IsTrue, length, Option, None, Some, is_some, is_none}
use Rattle.permit_base.specs.declared.words.Step.{Step}
use Rattle.permit_base.specs.declared.words.Stage.{Stage}
use Rattle.permit_base.specs.Stages.{stage_facts, is_running}
use Rattle.permit_model.specs.Codes.{is_step}
use Rattle.permit_model.specs.Steps.{required_steps}
use Rattle.permit_model.specs.Tables.{State, next_in_row}

-- abandoned, lapsed, new and office are never stored
abbrev pub is_stored : Stage → Bool
is_stored s = (stage_facts s).stored

-- the six stages in which there is a deadline
abbrev pub is_timed : Stage → Bool
is_timed s = is_running (stage_facts s).expiry

-- the work is over, with every step approved
abbrev pub is_completed : Stage → Bool
is_completed s = (stage_facts s).complete

-- whether the stage is certified
abbrev pub is_certified : Stage → Bool
is_certified s = (stage_facts s).certified

-- there is a deadline in the six stages, and in no other
abbrev pub deadline_stands : State → Bool
deadline_stands s = if is_timed s.stage then is_some s.deadline else is_none s.deadline

-- no request, or one for the next step
abbrev pub is_for : Option Step → Option Step → Bool
is_for None next = true
is_for (Some step) None = false
is_for (Some step) (Some next) = is_step next step

-- a request has its day, and without a request there is none
abbrev pub request_dated : State → Bool
request_dated s = if is_some s.request then is_some s.requested else is_none s.requested

-- every required step is approved, and no notice is open
abbrev pub is_finished : State → Bool
is_finished s = (s.done == length (required_steps s.edition s.kind)) && (s.notices == 0)

-- a stored stage; no more steps done than required; a deadline exactly where one runs; a request for the next step alone;
-- a finaled or certified file is finished, and a certified one isn't stopped
abbrev pub is_sound_state : State → Bool
is_sound_state s =
    is_stored s.stage && nat_le s.done (length (required_steps s.edition s.kind)) && deadline_stands s
    && is_for s.request (next_in_row s) && request_dated s
    && (not (is_completed s.stage) || is_finished s) && (not (is_certified s.stage) || not s.stopped)

-- the row is sound
abbrev pub IsSoundState : State → Type 0
IsSoundState s = IsTrue (is_sound_state s)
