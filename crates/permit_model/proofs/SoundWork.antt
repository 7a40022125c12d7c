-- What one more act makes of the work on a file: each column of the row stays sound.
use Rattle.std.proofs.Common.{◌≡◌, ◌≤◌, ◌<◌, ℕ, zero, suc, ◌+◌, Bool, true, false, not}
use Rattle.std.proofs.Common.{◌==◌, List, [], ◌∷◌, ◌++◌, length, refl, sym, ◌∙◌, ap, arith, length-append}
use Rattle.std.specs.Prelude.{Option, None, Some, is_some, ◌&&◌, nat_lt, nat_le, if◌then◌else◌, slice_get, unwrap_or}
use Rattle.std.specs.List.{list_all}
use Rattle.std.proofs.lemmas.Bool.{eq-eqb, leb-true, lt-ltb, ltb-false, and_from, and_parts}
use Rattle.permit_base.specs.Limits.{is_between, most_days}
use Rattle.permit_base.specs.Texts.{is_printable}
use Rattle.permit_base.specs.declared.words.Edition.{Edition}
use Rattle.permit_base.specs.declared.words.Kind.{Kind}
use Rattle.permit_base.specs.declared.words.Step.{Step}
use Rattle.permit_base.specs.declared.words.Step.TheVariants.{Footing, Slab, Frame, Lath, Final, Energy}
use Rattle.permit_base.specs.declared.words.Stage.{Stage}
use Rattle.permit_base.specs.declared.words.Stage.TheVariants as stage
use Rattle.permit_base.specs.declared.request.Command.{Command}
use Rattle.permit_base.specs.declared.request.Command.TheVariants.{StartReview, Return, Resubmit, ApprovePlans, Reject, Issue, AskExtension, GrantExtension}
use Rattle.permit_base.specs.declared.request.Command.TheVariants.{RefuseExtension, BeginWork, RequestInspection, ApproveStep, Notice, ClearNotice}
use Rattle.permit_base.specs.declared.request.Command.TheVariants.{Revoke, Temporary, Certify}
use Rattle.permit_model.specs.Codes.{is_step}
use Rattle.permit_model.specs.Days.{is_past, longest_permit_extension, longest_temporary}
use Rattle.permit_model.specs.Steps.{required_steps, has_certificates}
use Rattle.permit_model.specs.Files.{Filing, Act}
use Rattle.permit_model.specs.Work.{approved_steps, pending_step, requested_day, pending_ask, open_notices, is_stopped, temporary_until}
use Rattle.permit_model.specs.BaseStage.{base_stage}
use Rattle.permit_model.specs.Deadline.{deadline}
use Rattle.permit_model.specs.Facts.{past_stage, stage_on}
use Rattle.permit_model.specs.Admission.{ask_limit}
use Rattle.permit_base.specs.Stages.{stage_facts}
use Rattle.permit_model.specs.SoundState.{is_stored}
use Rattle.permit_model.specs.Within.{is_command_within}
use Rattle.permit_model.specs.Sound.{if_any, is_begun, may_be_stopped, is_occupied, is_done_in, longest_ask}
use Rattle.permit_model.proofs.Projection.{last_touched, WasAdmitted, WereAdmitted}
use Rattle.permit_model.proofs.Fronts.{Fronts, fronts, is_it}
use Rattle.permit_model.proofs.Stages.{was_in, stoppable_from, timed_from}
use Rattle.permit_model.proofs.Deadlines.{act_by, case_of, tests_passed, filed_first}
use Rattle.permit_model.proofs.SoundStates.{base_stored, final_last}
use Rattle.permit_model.proofs.SoundLists.{between, any_more, passed_not, between_later}

-- what was done to a file is within the limits of its types
abbrev pub ActsWithin : List Act → Type 0
ActsWithin acts = list_all (λ act. is_command_within act.command) acts ≡ true

-- ---- the stages in which a command was admitted

-- the one stage in which a command is admitted
abbrev pub only_stage : Command → Option Stage
only_stage StartReview = Some stage.Filed
only_stage (Return text) = Some stage.Review
only_stage (Resubmit text) = Some stage.Returned
only_stage ApprovePlans = Some stage.Review
only_stage (Reject text) = Some stage.Review
only_stage Issue = Some stage.Approved
only_stage BeginWork = Some stage.Issued
only_stage (RequestInspection step) = Some stage.Working
only_stage (ApproveStep step) = Some stage.Working
only_stage (Notice text) = Some stage.Working
only_stage (ClearNotice paper) = Some stage.Working
only_stage (Temporary days text) = Some stage.Working
only_stage Certify = Some stage.Finaled
only_stage _ = None

the_stage : (s wanted : Stage) → Some s ≡ Some wanted → s ≡ wanted
the_stage s wanted e = ap (λ o. unwrap_or o s) e

pub came_from : (filing : Filing) (caller day : ℕ) (command : Command) (number : Option ℕ) (before : List Act) →
    WasAdmitted filing (act_by caller day command number) before → (s : Stage) → only_stage command ≡ Some s → base_stage before ≡ s
came_from filing caller day StartReview number before w s e = was_in day (case_of filing before) stage.Filed refl
    (tests_passed filing (act_by caller day StartReview number) before w).0 ∙ the_stage stage.Filed s e
came_from filing caller day (Return text) number before w s e = was_in day (case_of filing before) stage.Review refl
    (tests_passed filing (act_by caller day (Return text) number) before w).0 ∙ the_stage stage.Review s e
came_from filing caller day (Resubmit text) number before w s e = was_in day (case_of filing before) stage.Returned refl
    (tests_passed filing (act_by caller day (Resubmit text) number) before w).0 ∙ the_stage stage.Returned s e
came_from filing caller day ApprovePlans number before w s e = was_in day (case_of filing before) stage.Review refl
    (tests_passed filing (act_by caller day ApprovePlans number) before w).0 ∙ the_stage stage.Review s e
came_from filing caller day (Reject text) number before w s e = was_in day (case_of filing before) stage.Review refl
    (tests_passed filing (act_by caller day (Reject text) number) before w).0 ∙ the_stage stage.Review s e
came_from filing caller day Issue number before w s e = was_in day (case_of filing before) stage.Approved refl
    (tests_passed filing (act_by caller day Issue number) before w).0 ∙ the_stage stage.Approved s e
came_from filing caller day BeginWork number before w s e = was_in day (case_of filing before) stage.Issued refl
    (tests_passed filing (act_by caller day BeginWork number) before w).0 ∙ the_stage stage.Issued s e
came_from filing caller day (RequestInspection step) number before w s e = was_in day (case_of filing before) stage.Working refl
    (tests_passed filing (act_by caller day (RequestInspection step) number) before w).0 ∙ the_stage stage.Working s e
came_from filing caller day (ApproveStep step) number before w s e = was_in day (case_of filing before) stage.Working refl
    (tests_passed filing (act_by caller day (ApproveStep step) number) before w).0 ∙ the_stage stage.Working s e
came_from filing caller day (Notice text) number before w s e = was_in day (case_of filing before) stage.Working refl
    (tests_passed filing (act_by caller day (Notice text) number) before w).0 ∙ the_stage stage.Working s e
came_from filing caller day (ClearNotice paper) number before w s e = was_in day (case_of filing before) stage.Working refl
    (tests_passed filing (act_by caller day (ClearNotice paper) number) before w).0 ∙ the_stage stage.Working s e
came_from filing caller day (Temporary days text) number before w s e = was_in day (case_of filing before) stage.Working refl
    (tests_passed filing (act_by caller day (Temporary days text) number) before w).0 ∙ the_stage stage.Working s e
came_from filing caller day Certify number before w s e = was_in day (case_of filing before) stage.Finaled refl
    (tests_passed filing (act_by caller day Certify number) before w).0 ∙ the_stage stage.Finaled s e
came_from filing caller day _ number before w s e = cc

-- a stored stage in which a permit can be revoked
abbrev is_under_permit : Stage → Bool
is_under_permit s = (stage_facts s).stored && (stage_facts s).revocable

-- a permit is revoked once it was issued, before the work is over
revocable_from : (s : Stage) (past : Bool) → is_stored s ≡ true → not (stage_facts (if past then past_stage s else s)).revocable ≡ false →
    is_under_permit s ≡ true
revocable_from s past stored h = grind arith

-- the stage before is none of these
nowhere : (admits : Stage → Bool) (acts : List Act) (s : Stage) → base_stage acts ≡ s → admits s ≡ false →
    admits (base_stage acts) ≡ true → ⊥
nowhere admits acts s was out e = let bad : true ≡ false = sym e ∙ ap admits was ∙ out in cc

among : (admits : Stage → Bool) (acts : List Act) (s : Stage) → base_stage acts ≡ s → admits s ≡ true → admits (base_stage acts) ≡ true
among admits acts s was here = ap admits was ∙ here

-- ---- stop work orders

abbrev pub StoppedIn : List Act → Type 0
StoppedIn acts = is_stopped acts ≡ true → may_be_stopped (base_stage acts) ≡ true

stopped_more : (filing : Filing) (caller day : ℕ) (command : Command) (number : Option ℕ) (before : List Act) →
    WasAdmitted filing (act_by caller day command number) before → StoppedIn before → StoppedIn (act_by caller day command number ∷ before)
stopped_more filing caller day command number before w ih = grind (arith, nowhere, came_from, tests_passed, act_by, stoppable_from, case_of, base_stored)

pub stopped_in : (filing : Filing) (acts : List Act) → WereAdmitted filing acts → StoppedIn acts
stopped_in filing [] w = λ e. cc
stopped_in filing (act ∷ before) w = stopped_more filing act.caller act.day act.command act.number before w.0 (stopped_in filing before w.1)

-- ---- requests

abbrev pub RequestIn : List Act → Type 0
RequestIn acts = is_some (pending_step acts) ≡ true → is_begun (base_stage acts) ≡ true

request_more : (filing : Filing) (caller day : ℕ) (command : Command) (number : Option ℕ) (before : List Act) →
    WasAdmitted filing (act_by caller day command number) before → RequestIn before → RequestIn (act_by caller day command number ∷ before)
request_more filing caller day command number before w ih = grind arith

pub request_in : (filing : Filing) (acts : List Act) → WereAdmitted filing acts → RequestIn acts
request_in filing [] w = λ e. cc
request_in filing (act ∷ before) w = request_more filing act.caller act.day act.command act.number before w.0 (request_in filing before w.1)

abbrev pub RequestDated : Filing → List Act → Type 0
RequestDated filing acts = if_any (is_between filing.filed (last_touched filing acts)) (requested_day acts) ≡ true

dated_more : (filing : Filing) (caller day : ℕ) (command : Command) (number : Option ℕ) (before : List Act) → filing.filed ≤ day →
    last_touched filing before ≤ day → RequestDated filing before → RequestDated filing (act_by caller day command number ∷ before)
dated_more filing caller day (RequestInspection step) number before late later ih = between filing.filed day day late (omega arith)
dated_more filing caller day (ApproveStep step) number before late later ih = refl
dated_more filing caller day (Notice text) number before late later ih = refl
dated_more filing caller day _ number before late later ih =
    any_more (is_between filing.filed (last_touched filing before)) (is_between filing.filed day) (requested_day before)
    (λ n. between_later filing.filed (last_touched filing before) day n later) ih

pub request_dated_in : (filing : Filing) (acts : List Act) → WereAdmitted filing acts → RequestDated filing acts
request_dated_in filing [] w = refl
request_dated_in filing (act ∷ before) w =
    dated_more filing act.caller act.day act.command act.number before (filed_first filing (act ∷ before) w) w.0.in_time (request_dated_in filing before w.1)

-- ---- asks

abbrev pub AskIn : List Act → Type 0
AskIn acts = if_any (is_between 1 (longest_ask (base_stage acts))) (pending_ask acts) ≡ true

pub longest_of_all : (s : Stage) → longest_ask s ≤ longest_permit_extension
longest_of_all s = grind arith

pub limit_kept : (s : Stage) → ask_limit s ≤ longest_ask s
limit_kept s = grind arith

-- an ask may be as long after the issue as any
ask_late : (acts : List Act) → AskIn acts → if_any (is_between 1 longest_permit_extension) (pending_ask acts) ≡ true
ask_late acts ih = grind arith

-- from one stage to another of the same limit an ask is kept
ask_kept : (acts : List Act) (s : Stage) → base_stage acts ≡ s → AskIn acts → if_any (is_between 1 (longest_ask s)) (pending_ask acts) ≡ true
ask_kept acts s was ih = ap (λ x. if_any (is_between 1 (longest_ask x)) (pending_ask acts)) (sym was) ∙ ih

pub least_days : (days : ℕ) (text : List ℕ) → (is_between 1 most_days days && is_printable text) ≡ true → 1 ≤ days
least_days days text e = leb-true 1 days (and_parts (nat_le 1 days) (nat_le days most_days) (and_parts (is_between 1 most_days days) (is_printable text) e).0).0

ask_more : (filing : Filing) (caller day : ℕ) (command : Command) (number : Option ℕ) (before : List Act) →
    WasAdmitted filing (act_by caller day command number) before → is_command_within command ≡ true → AskIn before →
    AskIn (act_by caller day command number ∷ before)
ask_more filing caller day StartReview number before w within ih =
    ask_kept before stage.Filed (came_from filing caller day StartReview number before w stage.Filed refl) ih
ask_more filing caller day (Return text) number before w within ih =
    ask_kept before stage.Review (came_from filing caller day (Return text) number before w stage.Review refl) ih
ask_more filing caller day (Resubmit text) number before w within ih =
    ask_kept before stage.Returned (came_from filing caller day (Resubmit text) number before w stage.Returned refl) ih
ask_more filing caller day ApprovePlans number before w within ih =
    ask_kept before stage.Review (came_from filing caller day ApprovePlans number before w stage.Review refl) ih
ask_more filing caller day (Reject text) number before w within ih =
    ask_kept before stage.Review (came_from filing caller day (Reject text) number before w stage.Review refl) ih
ask_more filing caller day Issue number before w within ih = refl
ask_more filing caller day (AskExtension days text) number before w within ih =
    let passed = tests_passed filing (act_by caller day (AskExtension days text) number) before w in
    let same : stage_on day (case_of filing before) ≡ base_stage before =
    timed_from (base_stage before) (is_past day (deadline (case_of filing before))) passed.0 in
    let small : days ≤ ask_limit (stage_on day (case_of filing before)) = ltb-false (ask_limit (stage_on day (case_of filing before))) days passed.1.0 in
    between 1 (longest_ask (base_stage before)) days (least_days days text within)
    (omega (arith, small, ap ask_limit same, limit_kept (base_stage before)))
ask_more filing caller day GrantExtension number before w within ih = refl
ask_more filing caller day (RefuseExtension text) number before w within ih = refl
ask_more filing caller day BeginWork number before w within ih = ask_late before ih
ask_more filing caller day (ApproveStep Final) number before w within ih = ask_late before ih
ask_more filing caller day (ApproveStep step) number before w within ih = ih
ask_more filing caller day (Revoke text) number before w within ih = ask_late before ih
ask_more filing caller day Certify number before w within ih = ask_late before ih
ask_more filing caller day _ number before w within ih = ih

pub ask_in : (filing : Filing) (acts : List Act) → WereAdmitted filing acts → ActsWithin acts → AskIn acts
ask_in filing [] w within = refl
ask_in filing (act ∷ before) w within =
    let parts = and_parts (is_command_within act.command) (list_all (λ a. is_command_within a.command) before) within in
    ask_more filing act.caller act.day act.command act.number before w.0 parts.0 (ask_in filing before w.1 parts.1)

-- the days of an ask, whatever the stage is
pub ask_of_any : (filing : Filing) (acts : List Act) → WereAdmitted filing acts → ActsWithin acts →
    if_any (is_between 1 longest_permit_extension) (pending_ask acts) ≡ true
ask_of_any filing acts w within = ask_late acts (ask_in filing acts w within)

-- ---- temporary certificates

abbrev pub CertificateEnds : Filing → List Act → Type 0
CertificateEnds filing acts = if_any (is_between (filing.filed + 1) (last_touched filing acts + longest_temporary)) (temporary_until acts) ≡ true

ends_more : (filing : Filing) (caller day : ℕ) (command : Command) (number : Option ℕ) (before : List Act) →
    WasAdmitted filing (act_by caller day command number) before → is_command_within command ≡ true → filing.filed ≤ day → CertificateEnds filing before →
    CertificateEnds filing (act_by caller day command number ∷ before)
ends_more filing caller day (Temporary days text) number before w within late ih =
    let passed = tests_passed filing (act_by caller day (Temporary days text) number) before w in
    between (filing.filed + 1) (day + longest_temporary) (day + days) (omega (arith, late, least_days days text within))
    (omega (arith, ltb-false longest_temporary days passed.1.1.0))
ends_more filing caller day _ number before w within late ih =
    any_more (is_between (filing.filed + 1) (last_touched filing before + longest_temporary)) (is_between (filing.filed + 1) (day + longest_temporary))
    (temporary_until before) (λ n. between_later (filing.filed + 1) (last_touched filing before + longest_temporary) (day + longest_temporary) n
    (omega (arith, w.in_time))) ih

pub certificate_ends : (filing : Filing) (acts : List Act) → WereAdmitted filing acts → ActsWithin acts → CertificateEnds filing acts
certificate_ends filing [] w within = refl
certificate_ends filing (act ∷ before) w within =
    let parts = and_parts (is_command_within act.command) (list_all (λ a. is_command_within a.command) before) within in
    ends_more filing act.caller act.day act.command act.number before w.0 parts.0 (filed_first filing (act ∷ before) w)
    (certificate_ends filing before w.1 parts.1)

abbrev pub CertificateIn : Filing → List Act → Type 0
CertificateIn filing acts = is_some (temporary_until acts) ≡ true → (is_occupied (base_stage acts) && has_certificates filing.kind) ≡ true

-- from a stage in which none is kept there is none
none_kept : (filing : Filing) (before : List Act) (s : Stage) → base_stage before ≡ s → is_occupied s ≡ false → CertificateIn filing before →
    is_some (temporary_until before) ≡ true → ⊥
none_kept filing before s was out ih e = grind arith

-- to a stage in which one is kept it goes on
still_kept : (filing : Filing) (before : List Act) → CertificateIn filing before → is_some (temporary_until before) ≡ true →
    (true && has_certificates filing.kind) ≡ true
still_kept filing before ih e = (and_parts (is_occupied (base_stage before)) (has_certificates filing.kind) (ih e)).1

certificate_more : (filing : Filing) (caller day : ℕ) (command : Command) (number : Option ℕ) (before : List Act) →
    WasAdmitted filing (act_by caller day command number) before → CertificateIn filing before →
    CertificateIn filing (act_by caller day command number ∷ before)
certificate_more filing caller day StartReview number before w ih = λ e.
    absurd (none_kept filing before stage.Filed (came_from filing caller day StartReview number before w stage.Filed refl) refl ih e)
certificate_more filing caller day (Return text) number before w ih = λ e.
    absurd (none_kept filing before stage.Review (came_from filing caller day (Return text) number before w stage.Review refl) refl ih e)
certificate_more filing caller day (Resubmit text) number before w ih = λ e.
    absurd (none_kept filing before stage.Returned (came_from filing caller day (Resubmit text) number before w stage.Returned refl) refl ih e)
certificate_more filing caller day ApprovePlans number before w ih = λ e.
    absurd (none_kept filing before stage.Review (came_from filing caller day ApprovePlans number before w stage.Review refl) refl ih e)
certificate_more filing caller day (Reject text) number before w ih = λ e.
    absurd (none_kept filing before stage.Review (came_from filing caller day (Reject text) number before w stage.Review refl) refl ih e)
certificate_more filing caller day Issue number before w ih = λ e.
    absurd (none_kept filing before stage.Approved (came_from filing caller day Issue number before w stage.Approved refl) refl ih e)
certificate_more filing caller day BeginWork number before w ih = still_kept filing before ih
certificate_more filing caller day (ApproveStep Final) number before w ih = still_kept filing before ih
certificate_more filing caller day (ApproveStep step) number before w ih = ih
certificate_more filing caller day (Revoke text) number before w ih = still_kept filing before ih
certificate_more filing caller day (Temporary days text) number before w ih = λ e.
    let passed = tests_passed filing (act_by caller day (Temporary days text) number) before w in
    and_from _ _ (among is_occupied before stage.Working (came_from filing caller day (Temporary days text) number before w stage.Working refl) refl)
    (passed_not (has_certificates filing.kind) passed.1.1.1.1.0)
certificate_more filing caller day Certify number before w ih = still_kept filing before ih
certificate_more filing caller day _ number before w ih = ih

pub certificate_in : (filing : Filing) (acts : List Act) → WereAdmitted filing acts → CertificateIn filing acts
certificate_in filing [] w = λ e. cc
certificate_in filing (act ∷ before) w = certificate_more filing act.caller act.day act.command act.number before w.0 (certificate_in filing before w.1)

-- ---- notices

abbrev pub NoticesIn : List Act → Type 0
NoticesIn acts = 0 < length (open_notices acts) → is_begun (base_stage acts) ≡ true

notices_more : (filing : Filing) (caller day : ℕ) (command : Command) (number : Option ℕ) (before : List Act) →
    WasAdmitted filing (act_by caller day command number) before → NoticesIn before → NoticesIn (act_by caller day command number ∷ before)
notices_more filing caller day StartReview number before w ih = λ e.
    absurd (nowhere is_begun before stage.Filed (came_from filing caller day StartReview number before w stage.Filed refl) refl (ih e))
notices_more filing caller day (Return text) number before w ih = λ e.
    absurd (nowhere is_begun before stage.Review (came_from filing caller day (Return text) number before w stage.Review refl) refl (ih e))
notices_more filing caller day (Resubmit text) number before w ih = λ e.
    absurd (nowhere is_begun before stage.Returned (came_from filing caller day (Resubmit text) number before w stage.Returned refl) refl (ih e))
notices_more filing caller day ApprovePlans number before w ih = λ e.
    absurd (nowhere is_begun before stage.Review (came_from filing caller day ApprovePlans number before w stage.Review refl) refl (ih e))
notices_more filing caller day (Reject text) number before w ih = λ e.
    absurd (nowhere is_begun before stage.Review (came_from filing caller day (Reject text) number before w stage.Review refl) refl (ih e))
notices_more filing caller day Issue number before w ih = λ e.
    absurd (nowhere is_begun before stage.Approved (came_from filing caller day Issue number before w stage.Approved refl) refl (ih e))
notices_more filing caller day BeginWork number before w ih = λ e. refl
notices_more filing caller day (ApproveStep Final) number before w ih = λ e.
    let none = ltb-false 0 (length (open_notices before)) (tests_passed filing (act_by caller day (ApproveStep Final) number) before w).1.1.1.1.0 in
    absurd (omega (arith, none, e))
notices_more filing caller day (ApproveStep step) number before w ih = ih
notices_more filing caller day (Notice text) number before w ih = λ e.
    among is_begun before stage.Working (came_from filing caller day (Notice text) number before w stage.Working refl) refl
notices_more filing caller day (ClearNotice paper) number before w ih = λ e.
    among is_begun before stage.Working (came_from filing caller day (ClearNotice paper) number before w stage.Working refl) refl
notices_more filing caller day (Revoke text) number before w ih = λ e. refl
notices_more filing caller day Certify number before w ih = λ e.
    absurd (nowhere is_begun before stage.Finaled (came_from filing caller day Certify number before w stage.Finaled refl) refl (ih e))
notices_more filing caller day _ number before w ih = ih

pub notices_in : (filing : Filing) (acts : List Act) → WereAdmitted filing acts → NoticesIn acts
notices_in filing [] w = λ e. absurd (omega (arith, e))
notices_in filing (act ∷ before) w = notices_more filing act.caller act.day act.command act.number before w.0 (notices_in filing before w.1)

-- ---- steps done

-- the list has a last step, and it is the final one
abbrev pub ends_final : List Step → Bool
ends_final [] = false
ends_final (step ∷ []) = is_step step Final
ends_final (step ∷ next ∷ later) = ends_final (next ∷ later)

required_end : (e : Edition) (kind : Kind) → ends_final (required_steps e kind) ≡ true
required_end e kind = grind arith

some_steps : (steps : List Step) → ends_final steps ≡ true → 0 < length steps
some_steps [] e = cc
some_steps (step ∷ later) e = omega arith

-- after a step that doesn't finish the work there is another
more_steps : (steps : List Step) (n : ℕ) (step : Step) → ends_final steps ≡ true → slice_get steps n ≡ Some step → is_step step Final ≡ false →
    suc n < length steps
more_steps [] n step ends there other = cc
more_steps (first ∷ []) zero step ends there other =
    let same : first ≡ step = ap (λ o. unwrap_or o first) there in
    let bad : true ≡ false = sym ends ∙ ap (λ s. is_step s Final) same ∙ other in cc
more_steps (first ∷ []) (suc n) step ends there other = cc
more_steps (first ∷ next ∷ later) zero step ends there other = omega arith
more_steps (first ∷ next ∷ later) (suc n) step ends there other = omega (arith, more_steps (next ∷ later) n step ends there other)

abbrev pub DoneIn : Filing → List Act → Type 0
DoneIn filing acts = is_done_in (base_stage acts) (length (required_steps filing.edition filing.kind)) (length (approved_steps acts)) ≡ true

-- from one stage to another in which as many steps are done
done_kept : (filing : Filing) (acts : List Act) (s : Stage) → base_stage acts ≡ s → DoneIn filing acts →
    is_done_in s (length (required_steps filing.edition filing.kind)) (length (approved_steps acts)) ≡ true
done_kept filing acts s was ih = grind arith

-- while steps are left, fewer are done than required
not_all : (s : Stage) (required done : ℕ) → is_under_permit s ≡ true → 0 < required → is_done_in s required done ≡ true →
    nat_lt done required ≡ true
not_all s required done left some e = grind arith

-- the step that was approved was the next one
was_next : (filing : Filing) (caller day : ℕ) (step : Step) (number : Option ℕ) (before : List Act) →
    WasAdmitted filing (act_by caller day (ApproveStep step) number) before → WereAdmitted filing before →
    slice_get (required_steps filing.edition filing.kind) (length (approved_steps before)) ≡ Some step
was_next filing caller day step number before w all =
    let f : Fronts filing before = fronts filing before all in
    let passed = tests_passed filing (act_by caller day (ApproveStep step) number) before w in
    ap (slice_get (required_steps filing.edition filing.kind)) f.front.3 ∙ sym f.front.2 ∙ f.pending step (is_it (pending_step before) step passed.1.1.1.0)

step_done : (filing : Filing) (before : List Act) (step : Step) → base_stage before ≡ stage.Working →
    slice_get (required_steps filing.edition filing.kind) (length (approved_steps before)) ≡ Some step → is_step step Final ≡ false →
    is_done_in (base_stage before) (length (required_steps filing.edition filing.kind)) (length (approved_steps before ++ step ∷ [])) ≡ true
step_done filing before step was next other = grind (arith, length-append, more_steps, required_end, lt-ltb)

all_done : (filing : Filing) (before : List Act) → slice_get (required_steps filing.edition filing.kind) (length (approved_steps before)) ≡ Some Final →
    (length (approved_steps before ++ Final ∷ []) == length (required_steps filing.edition filing.kind)) ≡ true
all_done filing before next = grind (arith, length-append, eq-eqb, final_last)

done_more : (filing : Filing) (caller day : ℕ) (command : Command) (number : Option ℕ) (before : List Act) →
    WasAdmitted filing (act_by caller day command number) before → WereAdmitted filing before → DoneIn filing before →
    DoneIn filing (act_by caller day command number ∷ before)
done_more filing caller day StartReview number before w all ih =
    done_kept filing before stage.Filed (came_from filing caller day StartReview number before w stage.Filed refl) ih
done_more filing caller day (Return text) number before w all ih =
    done_kept filing before stage.Review (came_from filing caller day (Return text) number before w stage.Review refl) ih
done_more filing caller day (Resubmit text) number before w all ih =
    done_kept filing before stage.Returned (came_from filing caller day (Resubmit text) number before w stage.Returned refl) ih
done_more filing caller day ApprovePlans number before w all ih =
    done_kept filing before stage.Review (came_from filing caller day ApprovePlans number before w stage.Review refl) ih
done_more filing caller day (Reject text) number before w all ih =
    done_kept filing before stage.Review (came_from filing caller day (Reject text) number before w stage.Review refl) ih
done_more filing caller day Issue number before w all ih =
    done_kept filing before stage.Approved (came_from filing caller day Issue number before w stage.Approved refl) ih
done_more filing caller day BeginWork number before w all ih =
    not_all (base_stage before) (length (required_steps filing.edition filing.kind)) (length (approved_steps before))
    (among is_under_permit before stage.Issued (came_from filing caller day BeginWork number before w stage.Issued refl) refl)
    (some_steps (required_steps filing.edition filing.kind) (required_end filing.edition filing.kind)) ih
done_more filing caller day (Revoke text) number before w all ih =
    not_all (base_stage before) (length (required_steps filing.edition filing.kind)) (length (approved_steps before))
    (revocable_from (base_stage before) (is_past day (deadline (case_of filing before))) (base_stored before)
    (tests_passed filing (act_by caller day (Revoke text) number) before w).0)
    (some_steps (required_steps filing.edition filing.kind) (required_end filing.edition filing.kind)) ih
done_more filing caller day (ApproveStep Final) number before w all ih = all_done filing before (was_next filing caller day Final number before w all)
done_more filing caller day (ApproveStep Footing) number before w all ih =
    step_done filing before Footing (came_from filing caller day (ApproveStep Footing) number before w stage.Working refl)
    (was_next filing caller day Footing number before w all) refl
done_more filing caller day (ApproveStep Slab) number before w all ih =
    step_done filing before Slab (came_from filing caller day (ApproveStep Slab) number before w stage.Working refl)
    (was_next filing caller day Slab number before w all) refl
done_more filing caller day (ApproveStep Frame) number before w all ih =
    step_done filing before Frame (came_from filing caller day (ApproveStep Frame) number before w stage.Working refl)
    (was_next filing caller day Frame number before w all) refl
done_more filing caller day (ApproveStep Lath) number before w all ih =
    step_done filing before Lath (came_from filing caller day (ApproveStep Lath) number before w stage.Working refl)
    (was_next filing caller day Lath number before w all) refl
done_more filing caller day (ApproveStep Energy) number before w all ih =
    step_done filing before Energy (came_from filing caller day (ApproveStep Energy) number before w stage.Working refl)
    (was_next filing caller day Energy number before w all) refl
done_more filing caller day Certify number before w all ih =
    done_kept filing before stage.Finaled (came_from filing caller day Certify number before w stage.Finaled refl) ih
done_more filing caller day _ number before w all ih = ih

pub done_in : (filing : Filing) (acts : List Act) → WereAdmitted filing acts → DoneIn filing acts
done_in filing [] w = refl
done_in filing (act ∷ before) w = done_more filing act.caller act.day act.command act.number before w.0 w.1 (done_in filing before w.1)
