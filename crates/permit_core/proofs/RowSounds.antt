-- An admitted command makes a sound row of a sound row.
use Rattle.std.proofs.Common.{◌≡◌, ◌≤◌, ◌<◌, ℕ, ◌+◌, Bool, true, false, not, ◌==◌, length, refl, ◌∙◌, ap, arith}
use Rattle.std.specs.Prelude.{Option, Some, option_map, is_some, is_none, ◌&&◌, ◌||◌, nat_lt, nat_le, if◌then◌else◌, slice_get, unwrap_or}
use Rattle.std.proofs.Math.Bool.{or-true}
use Rattle.std.proofs.lemmas.Bool.{eqb-true, leb-true, leb-false, eq-eqb, ltb-false as not_below}
use Rattle.permit_base.specs.declared.words.Edition.{Edition}
use Rattle.permit_base.specs.declared.words.Kind.{Kind}
use Rattle.permit_base.specs.declared.words.Step.{Step}
use Rattle.permit_base.specs.declared.words.Step.TheVariants.{Final}
use Rattle.permit_base.specs.declared.words.Stage.{Stage}
use Rattle.permit_base.specs.declared.words.Stage.TheVariants as stage
use Rattle.permit_base.specs.declared.request.Command.{Command}
use Rattle.permit_base.specs.declared.request.Command.TheVariants.{StartReview, Return, Resubmit, ApprovePlans, Reject, Issue, GrantExtension}
use Rattle.permit_base.specs.declared.request.Command.TheVariants.{BeginWork, RequestInspection, ApproveStep, Notice, ClearNotice, Stop, Lift}
use Rattle.permit_base.specs.declared.request.Command.TheVariants.{Revoke, Certify}
use Rattle.permit_core.specs.declared.people.People.{People}
use Rattle.permit_model.specs.Codes.{is_stage}
use Rattle.permit_model.specs.Effects.{effects}
use Rattle.permit_model.specs.Steps.{required_steps}
use Rattle.permit_model.specs.Work.{makes_paper}
use Rattle.permit_base.specs.Stages.{stage_facts}
use Rattle.permit_base.specs.Limits.{most_papers}
use Rattle.permit_model.specs.Tables.{State, next_in_row}
use Rattle.permit_model.specs.SoundState.{is_stored, is_timed, is_completed, is_certified, deadline_stands, is_for, is_finished, request_dated, IsSoundState}
use Rattle.permit_model.proofs.Fronts.{AllPass, all_pass, is_it}
use Rattle.permit_model.proofs.SoundStates.{final_last, same_as_itself}
use Rattle.permit_core.specs.Views.{row_stage}
use Rattle.permit_core.specs.RowTests.{row_tests, IsAdmitted}
use Rattle.permit_core.specs.RowAfter.{row_after, notices_after, FitsGrant, FitsNotice}

-- the facts of a sound row, one by one
pub record Sound (s : State) : Type 0 where
  pub stored : is_stored s.stage ≡ true
  pub few : nat_le s.done (length (required_steps s.edition s.kind)) ≡ true
  pub stands : deadline_stands s ≡ true
  pub request : is_for s.request (next_in_row s) ≡ true
  pub dated : request_dated s ≡ true
  pub over : (not (is_completed s.stage) || is_finished s) ≡ true
  pub free : (not (is_certified s.stage) || not s.stopped) ≡ true

parts : (a b : Bool) → (a && b) ≡ true → (a ≡ true) × (b ≡ true)
parts a b e = grind arith

pub sound_facts : (s : State) → IsSoundState s → Sound s
sound_facts s h = grind (arith, parts)

not_stopped : (b : Bool) → not b ≡ true → b ≡ false
not_stopped b e = grind arith

-- a certified file has every step approved, no open notice and no stop work order in force
pub certified_facts : (s : State) → IsSoundState s → s.stage ≡ stage.Certified → (s.done ≡ length (required_steps s.edition s.kind)) × (s.notices ≡ 0)
    × (s.stopped ≡ false)
certified_facts s sound at = grind (arith, sound_facts, parts, eqb-true, not_stopped)

pub sound_whole : (s : State) → Sound s → IsSoundState s
sound_whole s f = rw (f.stored, f.few, f.stands, f.request, f.dated, f.over, f.free) refl

-- ---- the stage in which a command was admitted

pub row_was_in : (day : ℕ) (s : State) (wanted : Stage) → is_stored wanted ≡ true → not (is_stage (row_stage day s) wanted) ≡ false →
    s.stage ≡ wanted
row_was_in day s wanted stored h = grind arith

not_certified_by : (day : ℕ) (s : State) (b : Bool) → is_certified s.stage ≡ b → not (stage_facts (row_stage day s)).stoppable ≡ false →
    (not b || false) ≡ true
not_certified_by day s b e h = grind arith

-- ---- parts of the row after

timed : (s : State) (wanted : Stage) → Sound s → s.stage ≡ wanted → is_timed wanted ≡ true → is_some s.deadline ≡ true
timed s wanted f was t = let e : is_timed s.stage ≡ true = ap is_timed was ∙ t in rw e at f.stands

stands_active : (s wanted : Stage) (day : ℕ) → s ≡ wanted → is_timed wanted ≡ true → (if is_timed s then true else false) ≡ true
stands_active s wanted day was t = let e : is_timed s ≡ true = ap is_timed was ∙ t in rw e refl

stands_granted : (t : Bool) (more : ℕ) (d : Option ℕ) → (if t then is_some d else is_none d) ≡ true →
    (if t then is_some (option_map (λ (n : ℕ). n + more) d) else is_none (option_map (λ (n : ℕ). n + more) d)) ≡ true
stands_granted t more d h = grind arith

not_over : (s : Stage) (wanted : Stage) (finished : Bool) → s ≡ wanted → is_completed wanted ≡ false → (not (is_completed s) || finished) ≡ true
not_over s wanted finished was c = let e : is_completed s ≡ false = ap is_completed was ∙ c in rw e refl

for_step : (step : Step) (next : Option Step) → is_for (Some step) next ≡ true → next ≡ Some step
for_step step next h = grind arith

both : (a b : Bool) → a ≡ true → b ≡ true → (a && b) ≡ true
both a b e f = rw (e, f) refl

-- the requested step is the next one
requested_next : (s : State) (step : Step) → Sound s → s.request ≡ Some step → next_in_row s ≡ Some step
requested_next s step f e = let h : is_for (Some step) (next_in_row s) ≡ true = rw e at f.request in for_step step (next_in_row s) h

one_more : (edition : Edition) (kind : Kind) (done : ℕ) (step : Step) → slice_get (required_steps edition kind) done ≡ Some step →
    nat_le (done + 1) (length (required_steps edition kind)) ≡ true
one_more edition kind done step next = grind arith

all_done : (edition : Edition) (kind : Kind) (done : ℕ) → slice_get (required_steps edition kind) done ≡ Some Final →
    (done + 1 == length (required_steps edition kind)) ≡ true
all_done edition kind done next = eq-eqb (done + 1) (length (required_steps edition kind)) (omega (arith, final_last edition kind done next))

none_open : (notices : ℕ) → nat_lt 0 notices ≡ false → (notices == 0) ≡ true
none_open notices h = eq-eqb notices 0 (omega (arith, not_below 0 notices h))

-- ---- the row after each command

sound_more : (day : ℕ) (command : Command) (s : State) (people : People) → Sound s → AllPass (row_tests day s people command) → Sound (row_after day command s)
sound_more day StartReview s people f p =
    record {
      stored = refl;
      few = f.few;
      stands = timed s stage.Filed f (row_was_in day s stage.Filed refl p.0) refl;
      request = f.request;
      dated = f.dated;
      over = refl;
      free = refl;
    }
sound_more day (Return text) s people f p =
    record {
      stored = refl;
      few = f.few;
      stands = timed s stage.Review f (row_was_in day s stage.Review refl p.0) refl;
      request = f.request;
      dated = f.dated;
      over = refl;
      free = refl;
    }
sound_more day (Resubmit text) s people f p =
    record {
      stored = refl;
      few = f.few;
      stands = timed s stage.Returned f (row_was_in day s stage.Returned refl p.0) refl;
      request = f.request;
      dated = f.dated;
      over = refl;
      free = refl;
    }
sound_more day ApprovePlans s people f p =
    record {
      stored = refl;
      few = f.few;
      stands = timed s stage.Review f (row_was_in day s stage.Review refl p.0) refl;
      request = f.request;
      dated = f.dated;
      over = refl;
      free = refl;
    }
sound_more day (Reject text) s people f p = record { stored = refl; few = f.few; stands = refl; request = f.request; dated = f.dated; over = refl; free = refl }
sound_more day Issue s people f p = record { stored = refl; few = f.few; stands = refl; request = f.request; dated = f.dated; over = refl; free = refl }
sound_more day GrantExtension s people f p =
    record {
      stored = f.stored;
      few = f.few;
      stands = stands_granted (is_timed s.stage) (unwrap_or s.ask 0) s.deadline f.stands;
      request = f.request;
      dated = f.dated;
      over = f.over;
      free = f.free;
    }
sound_more day BeginWork s people f p = record { stored = refl; few = f.few; stands = refl; request = f.request; dated = f.dated; over = refl; free = refl }
sound_more day (RequestInspection step) s people f p =
    let next : next_in_row s ≡ Some step = is_it (next_in_row s) step p.1.1.1.0 in
    record {
      stored = f.stored;
      few = f.few;
      stands = stands_active s.stage stage.Working day (row_was_in day s stage.Working refl p.0) refl;
      request = rw next (same_as_itself step);
      dated = refl;
      over = f.over;
      free = f.free;
    }
sound_more day (ApproveStep Final) s people f p =
    let next : next_in_row s ≡ Some Final = requested_next s Final f (is_it s.request Final p.1.1.1.0) in
    record {
      stored = refl;
      few = one_more s.edition s.kind s.done Final next;
      stands = refl;
      request = refl;
      dated = refl;
      over = both (s.done + 1 == length (required_steps s.edition s.kind)) (s.notices == 0) (all_done s.edition s.kind s.done next)
          (none_open s.notices p.1.1.1.1.0);
      free = refl;
    }
sound_more day (ApproveStep step) s people f p =
    let next : next_in_row s ≡ Some step = requested_next s step f (is_it s.request step p.1.1.1.0) in
    let was : s.stage ≡ stage.Working = row_was_in day s stage.Working refl p.0 in
    record {
      stored = f.stored;
      few = one_more s.edition s.kind s.done step next;
      stands = stands_active s.stage stage.Working day was refl;
      request = refl;
      dated = refl;
      over = not_over s.stage stage.Working _ was refl;
      free = f.free;
    }
sound_more day (Notice text) s people f p =
    let was : s.stage ≡ stage.Working = row_was_in day s stage.Working refl p.0 in
    record {
      stored = f.stored;
      few = f.few;
      stands = stands_active s.stage stage.Working day was refl;
      request = refl;
      dated = refl;
      over = not_over s.stage stage.Working _ was refl;
      free = f.free;
    }
sound_more day (ClearNotice paper) s people f p =
    record {
      stored = f.stored;
      few = f.few;
      stands = f.stands;
      request = f.request;
      dated = f.dated;
      over = not_over s.stage stage.Working _ (row_was_in day s stage.Working refl p.0) refl;
      free = f.free;
    }
sound_more day (Stop text conditions) s people f p =
    record {
      stored = f.stored;
      few = f.few;
      stands = f.stands;
      request = f.request;
      dated = f.dated;
      over = f.over;
      free = not_certified_by day s (is_certified s.stage) refl p.0;
    }
sound_more day Lift s people f p =
    record {
      stored = f.stored;
      few = f.few;
      stands = f.stands;
      request = f.request;
      dated = f.dated;
      over = f.over;
      free = or-true (not (is_certified s.stage));
    }
sound_more day (Revoke text) s people f p = record { stored = refl; few = f.few; stands = refl; request = f.request; dated = f.dated; over = refl; free = refl }
sound_more day Certify s people f p =
    let e : is_completed s.stage ≡ true = ap is_completed (row_was_in day s stage.Finaled refl p.0) in
    let done : is_finished s ≡ true = rw e at f.over in
    let unstopped : s.stopped ≡ false = p.1.0 in
    record { stored = refl; few = f.few; stands = refl; request = f.request; dated = f.dated; over = done; free = rw unstopped refl }
sound_more day _ s people f p = record { stored = f.stored; few = f.few; stands = f.stands; request = f.request; dated = f.dated; over = f.over; free = f.free }

-- with any count of papers, and a count of notices that is the one after the command wherever it fits
sound_counted : (day : ℕ) (command : Command) (s : State) (people : People) (notices papers : ℕ) → Sound s → AllPass (row_tests day s people command) →
    (FitsNotice (effects command).notice s.notices → notices ≡ notices_after (effects command).notice (effects command).cleared s.notices) →
    Sound (record (row_after day command s) { notices = notices; papers = papers })
sound_counted day command s people notices papers f p h = grind (arith, sound_more, not_over, row_was_in)

pub sound_after : (day : ℕ) (command : Command) (s : State) (notices papers : ℕ) → IsSoundState s → IsAdmitted day s command →
    (FitsNotice (effects command).notice s.notices → notices ≡ notices_after (effects command).notice (effects command).cleared s.notices) →
    IsSoundState (record (row_after day command s) { notices = notices; papers = papers })
sound_after day command s notices papers sound admitted h =
    sound_whole (record (row_after day command s) { notices = notices; papers = papers })
    (sound_counted day command s admitted.0 notices papers (sound_facts s sound) (all_pass (row_tests day s admitted.0 command) admitted.1) h)

-- ---- the numbers of the row after

few_steps : (edition : Edition) (kind : Kind) → length (required_steps edition kind) ≤ 6
few_steps edition kind = grind arith

pub few_done : (s : State) → IsSoundState s → s.done < 255
few_done s sound = omega (arith, few_steps s.edition s.kind, leb-true s.done (length (required_steps s.edition s.kind)) (sound_facts s sound).few)

fits_grant : (day : ℕ) (command : Command) (s : State) (people : People) → AllPass (row_tests day s people command) →
    FitsGrant (effects command).grants s.ask s.deadline
fits_grant day command s people p = grind arith

pub grant_fits : (day : ℕ) (command : Command) (s : State) → IsAdmitted day s command → FitsGrant (effects command).grants s.ask s.deadline
grant_fits day command s admitted = fits_grant day command s admitted.0 (all_pass (row_tests day s admitted.0 command) admitted.1)

-- a command that makes a paper finds fewer than the most papers
room_by : (day : ℕ) (command : Command) (s : State) (people : People) → AllPass (row_tests day s people command) → makes_paper command ≡ true →
    nat_le most_papers s.papers ≡ false
room_by day command s people p e = grind arith

pub room : (day : ℕ) (command : Command) (s : State) → IsAdmitted day s command → makes_paper command ≡ true → s.papers < most_papers
room day command s admitted e = leb-false most_papers s.papers (room_by day command s admitted.0 (all_pass (row_tests day s admitted.0 command) admitted.1) e)

pub notice_fits : (day : ℕ) (command : Command) (s : State) → IsAdmitted day s command → s.notices ≤ s.papers → FitsNotice (effects command).notice s.notices
notice_fits day command s admitted few = grind arith
