-- What each admitted command does to the deadline, and the bounds within which it stays.
use Rattle.std.proofs.Common.{◌≡◌, ◌≤◌, ℕ, ◌+◌, max, Bool, true, false, List, [], ◌∷◌, refl, sym, ◌∙◌, ap, arith}
use Rattle.std.specs.Prelude.{Option, None, Some, option_map, unwrap_or, nat_lt}
use Rattle.permit_base.specs.Limits.{latest_day, latest_deadline}
use Rattle.permit_base.specs.declared.words.Step.TheVariants.{Final}
use Rattle.permit_base.specs.declared.words.Stage.{Stage}
use Rattle.permit_base.specs.declared.words.Stage.TheVariants as stage
use Rattle.permit_base.specs.declared.stages.Expiry.{Expiry}
use Rattle.permit_base.specs.Stages.{stage_facts}
use Rattle.permit_base.specs.declared.request.Command.{Command}
use Rattle.permit_base.specs.declared.request.Command.TheVariants.{StartReview, Return, Resubmit, ApprovePlans, Reject, Issue, GrantExtension, BeginWork}
use Rattle.permit_base.specs.declared.request.Command.TheVariants.{RequestInspection, ApproveStep, Notice, Revoke, Certify}
use Rattle.permit_model.specs.Days.{term, greatest}
use Rattle.permit_model.specs.Effects.{effects}
use Rattle.permit_model.specs.Files.{Filing, Act, CaseFile}
use Rattle.permit_model.specs.Work.{pending_ask}
use Rattle.permit_model.specs.BaseStage.{base_stage}
use Rattle.permit_model.specs.Deadline.{days_granted, extended, filing_reach, anchor_reaches, deadline_by, deadline_in, deadline}
use Rattle.permit_model.specs.Admission.{file_tests}
use Rattle.permit_model.proofs.Appending.{extended-zero, greatest-extended}
use Rattle.permit_model.proofs.Projection.{last_touched, WasAdmitted, WereAdmitted}
use Rattle.permit_model.proofs.Fronts.{AllPass, all_pass}
use Rattle.permit_model.proofs.Stages.{was_in}

abbrev pub act_by : (caller day : ℕ) → Command → Option ℕ → Act
act_by caller day command number = record { caller = caller; day = day; command = command; number = number }

abbrev pub case_of : Filing → List Act → CaseFile
case_of filing acts = record { filing = filing; acts = acts }

-- all tests of an admitted act passed
pub tests_passed : (filing : Filing) (act : Act) (before : List Act) → (w : WasAdmitted filing act before) →
    AllPass (file_tests w.history act.day (case_of filing before) act.command)
tests_passed filing act before w = all_pass (file_tests w.history act.day (case_of filing before) act.command) w.admitted

-- ---- no anchor before issuance

-- the stages before issuance
abbrev pub is_early : Stage → Bool
is_early stage.Filed = true
is_early stage.Review = true
is_early stage.Returned = true
is_early stage.Approved = true
is_early stage.Rejected = true
is_early _ = false

abbrev pub IsUnanchored : List Act → Type 0
IsUnanchored acts = is_early (base_stage acts) ≡ true → anchor_reaches acts ≡ []

stays_empty : (days : ℕ) (acts : List Act) → anchor_reaches acts ≡ [] → extended days (anchor_reaches acts) ≡ []
stays_empty days acts none = rw none refl

-- after a command of one early stage there is still no anchor
still_empty : (filing : Filing) (day : ℕ) (before : List Act) (s : Stage) → base_stage before ≡ s → is_early s ≡ true → IsUnanchored before →
    extended 0 (anchor_reaches before) ≡ []
still_empty filing day before s was early ih = stays_empty 0 before (ih (ap is_early was ∙ early))

not_early : (before : List Act) (s : Stage) → base_stage before ≡ s → is_early s ≡ false → is_early (base_stage before) ≡ true → true ≡ false
not_early before s was late early = sym early ∙ ap is_early was ∙ late

unanchored_more : (filing : Filing) (caller day : ℕ) (command : Command) (number : Option ℕ) (before : List Act) →
    WasAdmitted filing (act_by caller day command number) before → IsUnanchored before → IsUnanchored (act_by caller day command number ∷ before)
unanchored_more filing caller day StartReview number before w ih e =
    still_empty filing day before stage.Filed (was_in day (case_of filing before) stage.Filed refl
    (tests_passed filing (act_by caller day StartReview number) before w).0) refl ih
unanchored_more filing caller day (Return text) number before w ih e =
    still_empty filing day before stage.Review (was_in day (case_of filing before) stage.Review refl
    (tests_passed filing (act_by caller day (Return text) number) before w).0) refl ih
unanchored_more filing caller day (Resubmit text) number before w ih e =
    still_empty filing day before stage.Returned (was_in day (case_of filing before) stage.Returned refl
    (tests_passed filing (act_by caller day (Resubmit text) number) before w).0) refl ih
unanchored_more filing caller day ApprovePlans number before w ih e =
    still_empty filing day before stage.Review (was_in day (case_of filing before) stage.Review refl
    (tests_passed filing (act_by caller day ApprovePlans number) before w).0) refl ih
unanchored_more filing caller day (Reject text) number before w ih e =
    still_empty filing day before stage.Review (was_in day (case_of filing before) stage.Review refl
    (tests_passed filing (act_by caller day (Reject text) number) before w).0) refl ih
unanchored_more filing caller day Issue number before w ih e = cc
unanchored_more filing caller day BeginWork number before w ih e = cc
unanchored_more filing caller day (RequestInspection step) number before w ih e =
    let bad : true ≡ false = not_early before stage.Working (was_in day (case_of filing before) stage.Working refl
    (tests_passed filing (act_by caller day (RequestInspection step) number) before w).0) refl e in cc
unanchored_more filing caller day (ApproveStep Final) number before w ih e = cc
unanchored_more filing caller day (ApproveStep step) number before w ih e =
    let bad : true ≡ false = not_early before stage.Working (was_in day (case_of filing before) stage.Working refl
    (tests_passed filing (act_by caller day (ApproveStep step) number) before w).0) refl e in cc
unanchored_more filing caller day (Notice text) number before w ih e =
    let bad : true ≡ false = not_early before stage.Working (was_in day (case_of filing before) stage.Working refl
    (tests_passed filing (act_by caller day (Notice text) number) before w).0) refl e in cc
unanchored_more filing caller day (Revoke text) number before w ih e = cc
unanchored_more filing caller day Certify number before w ih e = cc
unanchored_more filing caller day _ number before w ih e = stays_empty _ before (ih e)

-- before issuance nothing anchors the deadline but the filing
pub unanchored : (filing : Filing) (acts : List Act) → WereAdmitted filing acts → IsUnanchored acts
unanchored filing [] w = λ e. refl
unanchored filing (act ∷ before) w = unanchored_more filing act.caller act.day act.command act.number before w.0 (unanchored filing before w.1)

-- ---- the deadline after each command

-- the greater of the deadline and the day with the term
abbrev pub moved_by_activity : ℕ → Option ℕ → Option ℕ
moved_by_activity day old = Some (max (day + term) (unwrap_or old 0))

-- the deadline after a command of the day, from the pending ask and the deadline before it
abbrev pub deadline_after : Command → ℕ → Option ℕ → Option ℕ → Option ℕ
deadline_after GrantExtension day ask old = option_map (λ d. d + unwrap_or ask 0) old
deadline_after Issue day ask old = Some (day + term)
deadline_after BeginWork day ask old = moved_by_activity day old
deadline_after (RequestInspection step) day ask old = moved_by_activity day old
deadline_after (ApproveStep Final) day ask old = None
deadline_after (ApproveStep step) day ask old = moved_by_activity day old
deadline_after (Notice text) day ask old = moved_by_activity day old
deadline_after (Reject text) day ask old = None
deadline_after (Revoke text) day ask old = None
deadline_after Certify day ask old = None
deadline_after _ day ask old = old

plus_zero : (n : ℕ) → n + 0 ≡ n
plus_zero n = omega arith

-- a command that is no activity and grants nothing leaves the deadline of what expires
deadline_by_kept : (e : Expiry) (filed : ℕ) (act : Act) (before : List Act) → (effects act.command).anchor ≡ false → days_granted act.command before ≡ 0 →
    deadline_by e filed (act ∷ before) ≡ deadline_by e filed before
deadline_by_kept e filed act before quiet none = grind (arith, plus_zero, extended-zero)

-- granted days are added to it
deadline_by_granted : (e : Expiry) (filed caller day : ℕ) (number : Option ℕ) (before : List Act) →
    deadline_by e filed (act_by caller day GrantExtension number ∷ before) ≡ option_map (λ d. d + unwrap_or (pending_ask before) 0) (deadline_by e filed before)
deadline_by_granted e filed caller day number before = grind (arith, greatest-extended)

-- from one stage before issuance to another the deadline stays
deadline_early : (filing : Filing) (before : List Act) (s : Stage) → base_stage before ≡ s →
    deadline_in s filing.filed before ≡ Some (filing_reach filing.filed before) →
    Some (filing_reach filing.filed before + 0) ≡ deadline (case_of filing before)
deadline_early filing before s was d = ap Some (plus_zero (filing_reach filing.filed before)) ∙ sym d ∙ ap (λ x. deadline_in x filing.filed before) (sym was)

-- activity in the stages issued and working
deadline_active : (filing : Filing) (day : ℕ) (before : List Act) (s : Stage) → base_stage before ≡ s →
    deadline_in s filing.filed before ≡ greatest (anchor_reaches before) →
    greatest ((day + term) ∷ extended 0 (anchor_reaches before)) ≡ moved_by_activity day (deadline (case_of filing before))
deadline_active filing day before s was d = grind (arith, extended-zero)

-- the same where the command leaves the stage working
in_working : (filing : Filing) (day : ℕ) (before after : List Act) → base_stage before ≡ stage.Working →
    deadline_in stage.Working filing.filed after ≡ greatest ((day + term) ∷ extended 0 (anchor_reaches before)) →
    deadline_in (base_stage before) filing.filed after ≡ moved_by_activity day (deadline (case_of filing before))
in_working filing day before after was active = grind (arith, deadline_active)

-- what an admitted command does to the deadline
pub deadline_more : (filing : Filing) (caller day : ℕ) (command : Command) (number : Option ℕ) (before : List Act) →
    WasAdmitted filing (act_by caller day command number) before → IsUnanchored before →
    deadline (case_of filing (act_by caller day command number ∷ before)) ≡ deadline_after command day (pending_ask before) (deadline (case_of filing before))
deadline_more filing caller day StartReview number before w early =
    deadline_early filing before stage.Filed (was_in day (case_of filing before) stage.Filed refl
    (tests_passed filing (act_by caller day StartReview number) before w).0) refl
deadline_more filing caller day (Return text) number before w early =
    deadline_early filing before stage.Review (was_in day (case_of filing before) stage.Review refl
    (tests_passed filing (act_by caller day (Return text) number) before w).0) refl
deadline_more filing caller day (Resubmit text) number before w early =
    deadline_early filing before stage.Returned (was_in day (case_of filing before) stage.Returned refl
    (tests_passed filing (act_by caller day (Resubmit text) number) before w).0) refl
deadline_more filing caller day ApprovePlans number before w early =
    deadline_early filing before stage.Review (was_in day (case_of filing before) stage.Review refl
    (tests_passed filing (act_by caller day ApprovePlans number) before w).0) refl
deadline_more filing caller day (Reject text) number before w early = refl
deadline_more filing caller day Issue number before w early =
    let was : base_stage before ≡ stage.Approved = was_in day (case_of filing before) stage.Approved refl
    (tests_passed filing (act_by caller day Issue number) before w).0 in
    let none : anchor_reaches before ≡ [] = early (ap is_early was) in
    rw none (ap Some (omega arith))
deadline_more filing caller day GrantExtension number before w early = deadline_by_granted (stage_facts (base_stage before)).expiry filing.filed caller day number before
deadline_more filing caller day BeginWork number before w early =
    deadline_active filing day before stage.Issued (was_in day (case_of filing before) stage.Issued refl
    (tests_passed filing (act_by caller day BeginWork number) before w).0) refl
deadline_more filing caller day (RequestInspection step) number before w early =
    in_working filing day before (act_by caller day (RequestInspection step) number ∷ before)
    (was_in day (case_of filing before) stage.Working refl (tests_passed filing (act_by caller day (RequestInspection step) number) before w).0) refl
deadline_more filing caller day (ApproveStep Final) number before w early = refl
deadline_more filing caller day (ApproveStep step) number before w early =
    in_working filing day before (act_by caller day (ApproveStep step) number ∷ before)
    (was_in day (case_of filing before) stage.Working refl (tests_passed filing (act_by caller day (ApproveStep step) number) before w).0) refl
deadline_more filing caller day (Notice text) number before w early =
    in_working filing day before (act_by caller day (Notice text) number ∷ before)
    (was_in day (case_of filing before) stage.Working refl (tests_passed filing (act_by caller day (Notice text) number) before w).0) refl
deadline_more filing caller day (Revoke text) number before w early = refl
deadline_more filing caller day Certify number before w early = refl
deadline_more filing caller day command number before w early = deadline_by_kept (stage_facts (base_stage before)).expiry filing.filed
    (act_by caller day command number) before refl refl

-- ---- bounds

-- nothing is done to a file before it is filed
pub filed_first : (filing : Filing) (acts : List Act) → WereAdmitted filing acts → filing.filed ≤ last_touched filing acts
filed_first filing [] w = omega arith
filed_first filing (act ∷ before) w = omega (arith, filed_first filing before w.1, w.0.in_time)

-- a deadline, where there is one, is at least the number
abbrev pub IsFrom : ℕ → Option ℕ → Type 0
IsFrom least deadline = (d : ℕ) → deadline ≡ Some d → least ≤ d

same_number : (a b : ℕ) → Some a ≡ Some b → a ≡ b
same_number a b e = ap (λ o. unwrap_or o a) e

from_more : (filed day : ℕ) (command : Command) (ask old : Option ℕ) → filed ≤ day → IsFrom (filed + term) old →
    IsFrom (filed + term) (deadline_after command day ask old)
from_more filed day command ask old later from = grind arith

-- a deadline is never earlier than the filing's term
pub deadline_from : (filing : Filing) (acts : List Act) → WereAdmitted filing acts → IsFrom (filing.filed + term) (deadline (case_of filing acts))
deadline_from filing [] w = λ d e. omega (arith, same_number (filing.filed + term) d e)
deadline_from filing (act ∷ before) w =
    rw (deadline_more filing act.caller act.day act.command act.number before w.0 (unanchored filing before w.1))
    (from_more filing.filed act.day act.command (pending_ask before) (deadline (case_of filing before)) (filed_first filing (act ∷ before) w)
    (deadline_from filing before w.1))

-- a deadline, where there is one, is at most the last one
abbrev pub IsWithin : Option ℕ → Type 0
IsWithin deadline = (d : ℕ) → deadline ≡ Some d → d ≤ latest_deadline

active_within : (day : ℕ) (old : Option ℕ) → day ≤ latest_day → IsWithin old → IsWithin (moved_by_activity day old)
active_within day old early within d e = grind arith

granted_within : (ask : ℕ) (old : Option ℕ) → nat_lt latest_deadline (unwrap_or old 0 + ask) ≡ false → IsWithin (option_map (λ d. d + ask) old)
granted_within ask old near d e = grind arith

within_more : (filing : Filing) (caller day : ℕ) (command : Command) (number : Option ℕ) (before : List Act) →
    WasAdmitted filing (act_by caller day command number) before → day ≤ latest_day →
    IsWithin (deadline (case_of filing before)) → IsWithin (deadline_after command day (pending_ask before) (deadline (case_of filing before)))
within_more filing caller day GrantExtension number before w early within =
    granted_within (unwrap_or (pending_ask before) 0) (deadline (case_of filing before))
    (tests_passed filing (act_by caller day GrantExtension number) before w).1.1.1.0
within_more filing caller day Issue number before w early within = λ d e. omega (arith, early, same_number (day + term) d e)
within_more filing caller day BeginWork number before w early within = active_within day (deadline (case_of filing before)) early within
within_more filing caller day (RequestInspection step) number before w early within = active_within day (deadline (case_of filing before)) early within
within_more filing caller day (ApproveStep Final) number before w early within = λ d e. cc
within_more filing caller day (ApproveStep step) number before w early within = active_within day (deadline (case_of filing before)) early within
within_more filing caller day (Notice text) number before w early within = active_within day (deadline (case_of filing before)) early within
within_more filing caller day (Reject text) number before w early within = λ d e. cc
within_more filing caller day (Revoke text) number before w early within = λ d e. cc
within_more filing caller day Certify number before w early within = λ d e. cc
within_more filing caller day _ number before w early within = within

-- a deadline is never later than the last one
pub deadline_within : (filing : Filing) (acts : List Act) → WereAdmitted filing acts → last_touched filing acts ≤ latest_day →
    IsWithin (deadline (case_of filing acts))
deadline_within filing [] w early = λ d e. omega (arith, early, same_number (filing.filed + term) d e)
deadline_within filing (act ∷ before) w early =
    rw (deadline_more filing act.caller act.day act.command act.number before w.0 (unanchored filing before w.1))
    (within_more filing act.caller act.day act.command act.number before w.0 early (deadline_within filing before w.1 (omega (arith, early, w.0.in_time))))
