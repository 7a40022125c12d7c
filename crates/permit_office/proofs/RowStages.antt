-- The stage and the deadline of a file's row after an admitted command.
use Rattle.std.proofs.Common.{◌≡◌, ◌≤◌, ◌⊎◌, inl, inr, ℕ, ◌+◌, max, Bool, true, false, not, refl, sym, subst, arith}
use Rattle.std.specs.Prelude.{Option, None, Some, option_map, nat_le, nat_lt, if◌then◌else◌, unwrap_or}
use Rattle.std.proofs.lemmas.Bool.{leb-true, ltb-false, and_parts}
use Rattle.permit_base.specs.Limits.{is_between, latest_day, latest_deadline}
use Rattle.permit_base.specs.declared.words.Step.TheVariants.{Final}
use Rattle.permit_base.specs.declared.words.Stage.{Stage}
use Rattle.permit_base.specs.declared.words.Stage.TheVariants as stage
use Rattle.permit_base.specs.declared.request.Command.{Command}
use Rattle.permit_base.specs.declared.request.Command.TheVariants.{StartReview, Return, Resubmit, ApprovePlans, Reject, Issue, GrantExtension, BeginWork}
use Rattle.permit_base.specs.declared.request.Command.TheVariants.{RequestInspection, ApproveStep, Notice, Revoke, Certify}
use Rattle.permit_core.specs.declared.people.People.{People}
use Rattle.permit_core.specs.Views.{row_stage}
use Rattle.permit_core.specs.RowTests.{row_tests}
use Rattle.permit_core.specs.RowAfter.{row_after}
use Rattle.permit_base.specs.Stages.{stage_facts}
use Rattle.permit_model.specs.Codes.{is_stage}
use Rattle.permit_model.specs.Days.{term, is_past}
use Rattle.permit_model.specs.Effects.{effects}
use Rattle.permit_model.specs.Facts.{past_stage}
use Rattle.permit_model.specs.Tables.{State}
use Rattle.permit_model.specs.SoundState.{is_stored}
use Rattle.permit_model.specs.Sound.{if_any}
use Rattle.permit_model.proofs.Fronts.{AllPass}
use Rattle.permit_model.proofs.Stages.{only_one, unpassed}
use Rattle.permit_model.proofs.SoundLists.{between}

-- ---- the stage in which a command was admitted

pub was_in : (day : ℕ) (s : State) (wanted : Stage) → is_stored wanted ≡ true → not (is_stage (row_stage day s) wanted) ≡ false → s.stage ≡ wanted
was_in day s wanted stored h = unpassed s.stage wanted (is_past day s.deadline) stored
    (only_one (row_stage day s) wanted (is_stage (row_stage day s) wanted) refl h)

-- ---- moves from one stage to another

-- the moves while a file is worked on: all but those by the final inspection and the certificate
pub data Move : Type 0 where
  FiledToReview : Move
  ReviewToReturned : Move
  ReturnedToReview : Move
  ReviewToApproved : Move
  ReviewToRejected : Move
  ApprovedToIssued : Move
  IssuedToWorking : Move
  IssuedToRevoked : Move
  WorkingToRevoked : Move

abbrev pub stage_from : Move → Stage
stage_from FiledToReview = stage.Filed
stage_from ReviewToReturned = stage.Review
stage_from ReturnedToReview = stage.Returned
stage_from ReviewToApproved = stage.Review
stage_from ReviewToRejected = stage.Review
stage_from ApprovedToIssued = stage.Approved
stage_from IssuedToWorking = stage.Issued
stage_from IssuedToRevoked = stage.Issued
stage_from WorkingToRevoked = stage.Working

abbrev pub stage_to : Move → Stage
stage_to FiledToReview = stage.Review
stage_to ReviewToReturned = stage.Returned
stage_to ReturnedToReview = stage.Review
stage_to ReviewToApproved = stage.Approved
stage_to ReviewToRejected = stage.Rejected
stage_to ApprovedToIssued = stage.Issued
stage_to IssuedToWorking = stage.Working
stage_to IssuedToRevoked = stage.Revoked
stage_to WorkingToRevoked = stage.Revoked

-- the stage stays, or there is a move from the one to the other
abbrev pub IsMoved : Stage → Stage → Type 0
IsMoved s after = (after ≡ s) ⊎ ((m : Move) × (s ≡ stage_from m) × (after ≡ stage_to m))

-- whether the command ends the work
abbrev pub is_end : Command → Bool
is_end (ApproveStep Final) = true
is_end Certify = true
is_end _ = false

revoked_from : (s : Stage) (past : Bool) → is_stored s ≡ true → not (stage_facts (if past then past_stage s else s)).revocable ≡ false →
    IsMoved s stage.Revoked
revoked_from stage.Issued past stored h = inr (IssuedToRevoked, refl, refl)
revoked_from stage.Working past stored h = inr (WorkingToRevoked, refl, refl)
revoked_from stage.Lapsed past stored h = cc
revoked_from _ true stored h = cc
revoked_from _ false stored h = cc

pub moved : (day : ℕ) (command : Command) (s : State) (people : People) → is_stored s.stage ≡ true → AllPass (row_tests day s people command) →
    is_end command ≡ false → IsMoved s.stage (unwrap_or ((effects command).stage) s.stage)
moved day StartReview s people stored p e = inr (FiledToReview, was_in day s stage.Filed refl p.0, refl)
moved day (Return text) s people stored p e = inr (ReviewToReturned, was_in day s stage.Review refl p.0, refl)
moved day (Resubmit text) s people stored p e = inr (ReturnedToReview, was_in day s stage.Returned refl p.0, refl)
moved day ApprovePlans s people stored p e = inr (ReviewToApproved, was_in day s stage.Review refl p.0, refl)
moved day (Reject text) s people stored p e = inr (ReviewToRejected, was_in day s stage.Review refl p.0, refl)
moved day Issue s people stored p e = inr (ApprovedToIssued, was_in day s stage.Approved refl p.0, refl)
moved day BeginWork s people stored p e = inr (IssuedToWorking, was_in day s stage.Issued refl p.0, refl)
moved day (Revoke text) s people stored p e = revoked_from s.stage (is_past day s.deadline) stored p.0
moved day (ApproveStep Final) s people stored p e = cc
moved day Certify s people stored p e = cc
moved day _ s people stored p e = inl refl

-- what each move keeps, a command keeps
pub kept_by : (Q : Stage → Type 0) → ((m : Move) → Q (stage_from m) → Q (stage_to m)) → (s after : Stage) → IsMoved s after → Q s → Q after
kept_by Q each s after (inl e) q = subst Q (sym e) q
kept_by Q each s after (inr w) q = subst Q (sym w.2) (each w.0 (subst Q w.1 q))

-- ---- deadlines

abbrev pub DeadlineIn : ℕ → Option ℕ → Type 0
DeadlineIn filed deadline = if_any (is_between (filed + term) latest_deadline) deadline ≡ true

most_days : (filed : ℕ) (deadline : Option ℕ) → DeadlineIn filed deadline → unwrap_or deadline 0 ≤ latest_deadline
most_days filed None e = omega arith
most_days filed (Some n) e = leb-true n latest_deadline (and_parts (nat_le (filed + term) n) (nat_le n latest_deadline) e).1

active : (filed day : ℕ) (deadline : Option ℕ) → filed ≤ day → day ≤ latest_day → DeadlineIn filed deadline →
    is_between (filed + term) latest_deadline (max (day + term) (unwrap_or deadline 0)) ≡ true
active filed day deadline late early e =
    between (filed + term) latest_deadline (max (day + term) (unwrap_or deadline 0)) (omega (arith, late))
    (omega (arith, early, most_days filed deadline e))

granted : (filed : ℕ) (deadline : Option ℕ) (more : ℕ) → nat_lt latest_deadline (unwrap_or deadline 0 + more) ≡ false → DeadlineIn filed deadline →
    DeadlineIn filed (option_map (λ d. d + more) deadline)
granted filed None more small e = refl
granted filed (Some d) more small e =
    between (filed + term) latest_deadline (d + more)
    (omega (arith, leb-true (filed + term) d (and_parts (nat_le (filed + term) d) (nat_le d latest_deadline) e).0))
    (ltb-false latest_deadline (d + more) small)

pub deadline_more : (day : ℕ) (command : Command) (s : State) (people : People) → AllPass (row_tests day s people command) → s.filed ≤ day →
    day ≤ latest_day → DeadlineIn s.filed s.deadline → DeadlineIn s.filed (row_after day command s).deadline
deadline_more day Issue s people p late early e = between (s.filed + term) latest_deadline (day + term) (omega (arith, late)) (omega (arith, early))
deadline_more day GrantExtension s people p late early e = granted s.filed s.deadline (unwrap_or s.ask 0) p.1.1.1.0 e
deadline_more day BeginWork s people p late early e = active s.filed day s.deadline late early e
deadline_more day (RequestInspection step) s people p late early e = active s.filed day s.deadline late early e
deadline_more day (ApproveStep Final) s people p late early e = refl
deadline_more day (ApproveStep step) s people p late early e = active s.filed day s.deadline late early e
deadline_more day (Notice text) s people p late early e = active s.filed day s.deadline late early e
deadline_more day (Reject text) s people p late early e = refl
deadline_more day (Revoke text) s people p late early e = refl
deadline_more day Certify s people p late early e = refl
deadline_more day _ s people p late early e = e
