-- Every file of a history has a sound row.
use Rattle.std.proofs.Common.{◌≡◌, ◌≤◌, ℕ, suc, ◌+◌, Bool, true, false, not, List, [], ◌∷◌, ◌++◌, length, refl, sym, ◌∙◌, ap, arith}
use Rattle.std.specs.Prelude.{Option, Some, option_map, is_some, is_none, ◌==◌, ◌&&◌, ◌||◌, nat_le, if◌then◌else◌, slice_get, unwrap_or}
use Rattle.std.proofs.lemmas.Bool.{le-leb, eq-eqb, ltb-false as not_below}
use Rattle.std.proofs.lemmas.List.{length-take}
use Rattle.permit_base.specs.declared.words.Edition.{Edition}
use Rattle.permit_base.specs.declared.words.Kind.{Kind}
use Rattle.permit_base.specs.declared.words.Step.{Step}
use Rattle.permit_base.specs.declared.words.Step.TheVariants.{Final}
use Rattle.permit_base.specs.declared.words.Stage.{Stage}
use Rattle.permit_base.specs.declared.words.Stage.TheVariants as stage
use Rattle.permit_base.specs.declared.request.Command.{Command}
use Rattle.permit_base.specs.declared.request.Command.TheVariants.{StartReview, Return, Resubmit, ApprovePlans, Reject, Issue, BeginWork, RequestInspection}
use Rattle.permit_base.specs.declared.request.Command.TheVariants.{ApproveStep, Notice, ClearNotice, Revoke, Certify}
use Rattle.permit_model.specs.Codes.{step_code, is_step}
use Rattle.permit_model.specs.Steps.{required_steps, next_step}
use Rattle.permit_model.specs.History.{History}
use Rattle.permit_model.specs.Effects.{effects}
use Rattle.permit_model.specs.Files.{Filing, Act, CaseFile, case_numbered}
use Rattle.permit_model.specs.Work.{approved_steps, Inspection, pending_inspection, pending_step, open_notices, is_stopped}
use Rattle.permit_model.specs.BaseStage.{base_stage}
use Rattle.permit_model.specs.Days.{greatest}
use Rattle.permit_model.specs.Deadline.{extended, anchor_reaches, deadline_by, deadline_in}
use Rattle.permit_base.specs.declared.stages.Expiry.{Expiry}
use Rattle.permit_base.specs.declared.stages.Expiry.TheVariants.{Never, Application, Permit}
use Rattle.permit_base.specs.Stages.{stage_facts, is_running}
use Rattle.permit_model.specs.Tables.{state_of}
use Rattle.permit_model.specs.SoundState.{is_stored, is_timed, is_completed, is_certified, is_for, IsSoundState}
use Rattle.permit_model.specs.Machine.{IsHistory}
use Rattle.permit_model.proofs.Appending.{base_stage-more, greatest-extended}
use Rattle.permit_model.proofs.Projection.{WasAdmitted, WereAdmitted, done_to}
use Rattle.permit_model.proofs.Fronts.{IsFront, Fronts, fronts, next_at_count, is_it}
use Rattle.permit_model.proofs.Stages.{was_in}
use Rattle.permit_model.proofs.Deadlines.{act_by, case_of, tests_passed}

-- ---- a stored stage

stored_more : (command : Command) (s : Stage) → is_stored s ≡ true → is_stored (unwrap_or ((effects command).stage) s) ≡ true
stored_more command s ih = grind arith

-- the stage, whatever the day is, is a stored one
pub base_stored : (acts : List Act) → is_stored (base_stage acts) ≡ true
base_stored [] = refl
base_stored (act ∷ before) = rw (base_stage-more act before) (stored_more act.command (base_stage before) (base_stored before))

-- ---- whether there is a deadline

-- whether it is the permit that expires
abbrev pub is_permits : Expiry → Bool
is_permits Permit = true
is_permits Application = false
is_permits Never = false

-- while a permit runs there is an anchor
abbrev pub IsAnchored : List Act → Type 0
IsAnchored acts = is_permits (stage_facts (base_stage acts)).expiry ≡ true → is_some (greatest (anchor_reaches acts)) ≡ true

mapped_some : (days : ℕ) (o : Option ℕ) → is_some o ≡ true → is_some (option_map (λ r. r + days) o) ≡ true
mapped_some days o e = grind arith

extended_some : (days : ℕ) (reaches : List ℕ) → is_some (greatest reaches) ≡ true → is_some (greatest (extended days reaches)) ≡ true
extended_some days reaches e = rw (greatest-extended days reaches) (mapped_some days (greatest reaches) e)

anchored_more : (caller day : ℕ) (command : Command) (number : Option ℕ) (before : List Act) → IsAnchored before →
    IsAnchored (act_by caller day command number ∷ before)
anchored_more caller day command number before ih = grind (arith, extended_some)

pub anchored : (acts : List Act) → IsAnchored acts
anchored [] = λ e. cc
anchored (act ∷ before) = anchored_more act.caller act.day act.command act.number before (anchored before)

stands_by : (e : Expiry) (filed : ℕ) (acts : List Act) → (is_permits e ≡ true → is_some (greatest (anchor_reaches acts)) ≡ true) →
    (if is_running e then is_some (deadline_by e filed acts) else is_none (deadline_by e filed acts)) ≡ true
stands_by e filed acts late = grind arith

-- there is a deadline in the six stages, and in no other
pub stands_in : (s : Stage) (filed : ℕ) (acts : List Act) → (is_permits (stage_facts s).expiry ≡ true → is_some (greatest (anchor_reaches acts)) ≡ true) →
    (if is_timed s then is_some (deadline_in s filed acts) else is_none (deadline_in s filed acts)) ≡ true
stands_in s filed acts late = stands_by (stage_facts s).expiry filed acts late

-- ---- the pending request

pub same_as_itself : (step : Step) → is_step step step ≡ true
same_as_itself step = eq-eqb (step_code step) (step_code step) refl

pub for_next : (request next : Option Step) → ((step : Step) → request ≡ Some step → next ≡ Some step) → is_for request next ≡ true
for_next request next pending = grind arith

pub dated : (o : Option Inspection) → (if is_some (option_map (λ (i : Inspection). i.step) o) then is_some (option_map (λ (i : Inspection). i.day) o)
    else is_none (option_map (λ (i : Inspection). i.day) o)) ≡ true
dated o = grind arith

pub front_length : (edition : Edition) (kind : Kind) (steps : List Step) → IsFront edition kind steps → length steps ≤ length (required_steps edition kind)
front_length edition kind steps front = grind (arith, length-take)

-- ---- finaled and certified files

-- the step final is the last
pub final_last : (edition : Edition) (kind : Kind) (n : ℕ) → slice_get (required_steps edition kind) n ≡ Some Final →
    suc n ≡ length (required_steps edition kind)
final_last edition kind n e = grind arith

-- every required step is approved, and no notice is open
abbrev pub IsFinishedWork : Filing → List Act → Type 0
IsFinishedWork filing acts = (length (approved_steps acts) ≡ length (required_steps filing.edition filing.kind)) × (length (open_notices acts) ≡ 0)

abbrev pub FinishedWhenCompleted : Filing → List Act → Type 0
FinishedWhenCompleted filing acts = is_completed (base_stage acts) ≡ true → IsFinishedWork filing acts

not_completed : (before : List Act) → base_stage before ≡ stage.Working → is_completed (base_stage before) ≡ true → false ≡ true
not_completed before was e = sym (ap is_completed was) ∙ e

final_approved : (filing : Filing) (before : List Act) → Fronts filing before → pending_step before ≡ Some Final → length (open_notices before) ≤ 0 →
    (length (approved_steps before ++ Final ∷ []) ≡ length (required_steps filing.edition filing.kind)) × (length (open_notices before) ≡ 0)
final_approved filing before f pending few = grind arith

finished_more : (filing : Filing) (caller day : ℕ) (command : Command) (number : Option ℕ) (before : List Act) →
    WasAdmitted filing (act_by caller day command number) before → Fronts filing before → FinishedWhenCompleted filing before →
    FinishedWhenCompleted filing (act_by caller day command number ∷ before)
finished_more filing caller day StartReview number before w f ih = λ e. cc
finished_more filing caller day (Return text) number before w f ih = λ e. cc
finished_more filing caller day (Resubmit text) number before w f ih = λ e. cc
finished_more filing caller day ApprovePlans number before w f ih = λ e. cc
finished_more filing caller day (Reject text) number before w f ih = λ e. cc
finished_more filing caller day Issue number before w f ih = λ e. cc
finished_more filing caller day BeginWork number before w f ih = λ e. cc
finished_more filing caller day (Revoke text) number before w f ih = λ e. cc
finished_more filing caller day (RequestInspection step) number before w f ih = λ e.
    let bad : false ≡ true = not_completed before (was_in day (case_of filing before) stage.Working refl
    (tests_passed filing (act_by caller day (RequestInspection step) number) before w).0) e in cc
finished_more filing caller day (ApproveStep Final) number before w f ih = λ e.
    let passed = tests_passed filing (act_by caller day (ApproveStep Final) number) before w in
    final_approved filing before f (is_it (pending_step before) Final passed.1.1.1.0) (not_below 0 (length (open_notices before)) passed.1.1.1.1.0)
finished_more filing caller day (ApproveStep step) number before w f ih = λ e.
    let bad : false ≡ true = not_completed before (was_in day (case_of filing before) stage.Working refl
    (tests_passed filing (act_by caller day (ApproveStep step) number) before w).0) e in cc
finished_more filing caller day (Notice text) number before w f ih = λ e.
    let bad : false ≡ true = not_completed before (was_in day (case_of filing before) stage.Working refl
    (tests_passed filing (act_by caller day (Notice text) number) before w).0) e in cc
finished_more filing caller day (ClearNotice paper) number before w f ih = λ e.
    let bad : false ≡ true = not_completed before (was_in day (case_of filing before) stage.Working refl
    (tests_passed filing (act_by caller day (ClearNotice paper) number) before w).0) e in cc
finished_more filing caller day Certify number before w f ih = λ e.
    ih (ap is_completed (was_in day (case_of filing before) stage.Finaled refl (tests_passed filing (act_by caller day Certify number) before w).0))
finished_more filing caller day _ number before w f ih = ih

-- a finaled or certified file has every required step approved, and no open notice
pub finished : (filing : Filing) (acts : List Act) → WereAdmitted filing acts → FinishedWhenCompleted filing acts
finished filing [] w = λ e. cc
finished filing (act ∷ before) w = finished_more filing act.caller act.day act.command act.number before w.0 (fronts filing before w.1)
    (finished filing before w.1)

-- ---- certified files

abbrev pub UnstoppedWhenCertified : List Act → Type 0
UnstoppedWhenCertified acts = is_certified (base_stage acts) ≡ true → is_stopped acts ≡ false

unstopped_more : (filing : Filing) (caller day : ℕ) (command : Command) (number : Option ℕ) (before : List Act) →
    WasAdmitted filing (act_by caller day command number) before → UnstoppedWhenCertified before →
    UnstoppedWhenCertified (act_by caller day command number ∷ before)
unstopped_more filing caller day command number before w ih = grind arith

-- no stop work order is in force on a certified file
pub unstopped : (filing : Filing) (acts : List Act) → WereAdmitted filing acts → UnstoppedWhenCertified acts
unstopped filing [] w = λ e. cc
unstopped filing (act ∷ before) w = unstopped_more filing act.caller act.day act.command act.number before w.0 (unstopped filing before w.1)

-- ---- the whole row

only_where : (b : Bool) (holds : Bool) → (b ≡ true → holds ≡ true) → (not b || holds) ≡ true
only_where b holds e = grind arith

both : (a b : Bool) → a ≡ true → b ≡ true → (a && b) ≡ true
both a b e f = rw (e, f) refl

-- the row of a file whose acts were all admitted is sound
pub sound_acts : (filing : Filing) (acts : List Act) → WereAdmitted filing acts → IsSoundState (state_of (case_of filing acts))
sound_acts filing acts w =
    let f : Fronts filing acts = fronts filing acts w in
    let next : next_step filing.edition filing.kind (approved_steps acts)
    ≡ slice_get (required_steps filing.edition filing.kind) (length (approved_steps acts)) = next_at_count filing acts w in
    let stored : is_stored (base_stage acts) ≡ true = base_stored acts in
    let few : nat_le (length (approved_steps acts)) (length (required_steps filing.edition filing.kind)) ≡ true =
    le-leb (length (approved_steps acts)) (length (required_steps filing.edition filing.kind))
    (front_length filing.edition filing.kind (approved_steps acts) f.front) in
    let stands = stands_in (base_stage acts) filing.filed acts (anchored acts) in
    let request : is_for (pending_step acts) (slice_get (required_steps filing.edition filing.kind) (length (approved_steps acts))) ≡ true =
    for_next (pending_step acts) (slice_get (required_steps filing.edition filing.kind) (length (approved_steps acts)))
    (λ step e. sym next ∙ f.pending step e) in
    let over : (not (is_completed (base_stage acts)) || ((length (approved_steps acts) == length (required_steps filing.edition filing.kind))
    && (length (open_notices acts) == 0))) ≡ true =
    only_where (is_completed (base_stage acts)) ((length (approved_steps acts) == length (required_steps filing.edition filing.kind))
    && (length (open_notices acts) == 0))
    (λ e. both (length (approved_steps acts) == length (required_steps filing.edition filing.kind)) (length (open_notices acts) == 0)
    (eq-eqb (length (approved_steps acts)) (length (required_steps filing.edition filing.kind)) (finished filing acts w e).0)
    (eq-eqb (length (open_notices acts)) 0 (finished filing acts w e).1)) in
    let free : (not (is_certified (base_stage acts)) || not (is_stopped acts)) ≡ true =
    only_where (is_certified (base_stage acts)) (not (is_stopped acts)) (λ e. ap not (unstopped filing acts w e)) in
    rw (stored, few, stands, request, dated (pending_inspection acts), over, free) refl

-- every file of a history has a sound row
pub sound_states : (h : History) (id : ℕ) (file : CaseFile) → IsHistory h → case_numbered h id ≡ Some file → IsSoundState (state_of file)
sound_states h id file is there = sound_acts file.filing file.acts (done_to h id file is there).admitted
