-- What an admitted command makes of a file's row.
use Rattle.std.specs.Prelude.{◌≡◌, ℕ, Bool, true, not, ◌&&◌, ◌||◌, ◌+◌, ◌-◌, ◌<◌, ◌^◌, max, min, ◌∷◌, Option, None, Some, unwrap_or, option_map, is_some}
use Rattle.std.specs.Prelude.{if◌then◌else◌}
use Rattle.permit_base.specs.declared.words.Step.{Step}
use Rattle.permit_base.specs.declared.words.Stage.{Stage}
use Rattle.permit_base.specs.declared.words.Stage.TheVariants as stage
use Rattle.permit_base.specs.declared.request.Command.{Command}
use Rattle.std.specs.Option.{option_or}
use Rattle.permit_model.specs.Codes.{is_stage}
use Rattle.permit_model.specs.Days.{term}
use Rattle.permit_model.specs.Effects.{effects}
use Rattle.permit_model.specs.Work.{makes_paper}
use Rattle.permit_model.specs.Files.{CaseFile}
use Rattle.permit_model.specs.Tables.{State}
use Rattle.permit_model.specs.SoundState.{is_timed}
use Rattle.permit_model.specs.Machine.{paper_number}

-- the days of the paper that a command makes: those asked, granted or given, else 0
abbrev pub row_paper_days : State → Command → ℕ
row_paper_days s command = if (effects command).grants then unwrap_or s.ask 0 else (effects command).days

-- activity makes the deadline the greater of itself and the day with the term
abbrev pub moved_by_activity : ℕ → Option ℕ → Option ℕ
moved_by_activity day deadline = Some (max (day + term) (unwrap_or deadline 0))

-- the deadline after a command that grants nothing, by the stage that it gives: issuance sets it, activity moves it, and
-- a stage without one takes it away
abbrev pub deadline_by : Option Stage → Bool → ℕ → Option ℕ → Option ℕ
deadline_by None anchor day deadline = if anchor then moved_by_activity day deadline else deadline
deadline_by (Some given) anchor day deadline =
    if is_stage given stage.Issued then Some (day + term) else (if is_timed given then (if anchor then moved_by_activity day deadline else deadline) else None)

-- the deadline after a command of the day, from the pending ask and the deadline before it: a grant adds the asked days
abbrev pub deadline_after : Bool → Option Stage → Bool → ℕ → Option ℕ → Option ℕ → Option ℕ
deadline_after grants stage anchor day ask deadline =
    if grants then option_map (λ d. d + unwrap_or ask 0) deadline else deadline_by stage anchor day deadline

-- an approval adds one to the steps that are done
abbrev pub done_after : Option Step → ℕ → ℕ
done_after step done = if is_some step then done + 1 else done

-- the day of the pending request
abbrev pub requested_after : ℕ → Option (Option Step) → Option ℕ → Option ℕ
requested_after day request requested = unwrap_or (option_map (option_map (λ step. day)) request) requested

-- a notice is open until it is cleared
abbrev pub notices_after : Bool → Option ℕ → ℕ → ℕ
notices_after notice cleared notices = if notice then notices + 1 else (if is_some cleared then notices - 1 else notices)

-- one paper more, where the command makes one
abbrev pub papers_after : Command → ℕ → ℕ
papers_after command papers = if makes_paper command then papers + 1 else papers

-- the row after a command of the day
abbrev pub row_after : ℕ → Command → State → State
row_after day command s = let e = effects command in record s {
  contractor = option_or e.contractor s.contractor;
  reviewer = option_or e.reviewer s.reviewer;
  inspector = option_or e.inspector s.inspector;
  stage = unwrap_or e.stage s.stage;
  deadline = deadline_after e.grants e.stage e.anchor day s.ask s.deadline;
  done = done_after e.step s.done;
  request = unwrap_or e.request s.request;
  requested = requested_after day e.request s.requested;
  ask = unwrap_or e.ask s.ask;
  stopped = e.stops || (not e.lifts && s.stopped);
  notices = notices_after e.notice e.cleared s.notices;
  papers = papers_after command s.papers;
  temporary = option_or (option_map (λ days. day + days) e.temporary) s.temporary;
}

-- the row with the count of notices that a row can keep
abbrev pub with_most_notices : State → State
with_most_notices s = record s { notices = min 65535 s.notices }

-- the file after a command of the caller on the day, with the number of the paper that it makes
abbrev pub file_after : ℕ → Command → ℕ → CaseFile → CaseFile
file_after day command caller file = record {
  filing = file.filing;
  acts = record { caller = caller; day = day; command = command; number = paper_number command (Some file) } ∷ file.acts;
}

-- a granted deadline is a number that a row can keep
abbrev pub FitsGrant : Bool → Option ℕ → Option ℕ → Type 0
FitsGrant grants ask deadline = grants ≡ true → unwrap_or deadline 0 + unwrap_or ask 0 < 2 ^ 32

-- one more notice is a number that a row can keep
abbrev pub FitsNotice : Bool → ℕ → Type 0
FitsNotice notice notices = notice ≡ true → notices < 65535
