-- What each command does to its file, one line a command: the department's table of effects.
use Rattle.std.specs.Prelude.{ℕ, Bool, true, false, List, [], Option, None, Some}
use Rattle.permit_base.specs.declared.words.Step.{Step}
use Rattle.permit_base.specs.declared.words.Step.TheVariants.{Footing, Slab, Frame, Lath, Final, Energy}
use Rattle.permit_base.specs.declared.words.Stage.{Stage}
use Rattle.permit_base.specs.declared.words.Stage.TheVariants as stage
use Rattle.permit_base.specs.declared.words.PaperSort.{PaperSort}
use Rattle.permit_base.specs.declared.words.PaperSort.TheVariants as sort
use Rattle.permit_base.specs.declared.request.Command.{Command}
use Rattle.permit_base.specs.declared.request.Command.TheVariants.{AssignReviewer, AssignInspector, NameContractor, StartReview, Return, Resubmit, ApprovePlans}
use Rattle.permit_base.specs.declared.request.Command.TheVariants.{Reject, Issue, AskExtension, GrantExtension, RefuseExtension, BeginWork, RequestInspection}
use Rattle.permit_base.specs.declared.request.Command.TheVariants.{ApproveStep, Notice, ClearNotice, Stop, Lift, Revoke, Temporary, Certify}

-- what a command does: the party that it names as contractor, reviewer or inspector; the stage that it gives; the step
-- that it approves; the inspection requested (Some None: none is, from now on); the days asked (the same); the notice
-- given or cleared; the order to stop, or its lift; the days of a temporary certificate; the paper made, with its days,
-- text and terms; whether it is the issue or activity; and whether it grants the pending ask
pub record Effects : Type 0 where
  pub contractor : Option ℕ
  pub reviewer : Option ℕ
  pub inspector : Option ℕ
  pub stage : Option Stage
  pub step : Option Step
  pub request : Option (Option Step)
  pub ask : Option (Option ℕ)
  pub notice : Bool
  pub cleared : Option ℕ
  pub stops : Bool
  pub lifts : Bool
  pub temporary : Option ℕ
  pub paper : Option PaperSort
  pub days : ℕ
  pub text : List ℕ
  pub terms : List ℕ
  pub anchor : Bool
  pub grants : Bool

-- nothing of all this
abbrev pub plain : Effects
plain = record {
  contractor = None;
  reviewer = None;
  inspector = None;
  stage = None;
  step = None;
  request = None;
  ask = None;
  notice = false;
  cleared = None;
  stops = false;
  lifts = false;
  temporary = None;
  paper = None;
  days = 0;
  text = [];
  terms = [];
  anchor = false;
  grants = false;
}

-- the stage that an approved step gives: the last one makes the file finaled
abbrev pub stage_of_step : Step → Option Stage
stage_of_step Footing = None
stage_of_step Slab = None
stage_of_step Frame = None
stage_of_step Lath = None
stage_of_step Energy = None
stage_of_step Final = Some stage.Finaled

-- what each command does
abbrev pub effects : Command → Effects
effects (AssignReviewer party) = record plain { reviewer = Some party }
effects (AssignInspector party) = record plain { inspector = Some party }
effects (NameContractor party) = record plain { contractor = Some party }
effects StartReview = record plain { stage = Some stage.Review }
effects (Return text) = record plain { stage = Some stage.Returned; paper = Some sort.Returned; text = text }
effects (Resubmit text) = record plain { stage = Some stage.Review; paper = Some sort.Resubmitted; text = text }
effects ApprovePlans = record plain { stage = Some stage.Approved }
effects (Reject text) = record plain { stage = Some stage.Rejected; paper = Some sort.Rejected; text = text }
effects Issue = record plain { stage = Some stage.Issued; ask = Some None; paper = Some sort.Permit; anchor = true }
effects (AskExtension days text) = record plain { ask = Some (Some days); paper = Some sort.Asked; days = days; text = text }
effects GrantExtension = record plain { ask = Some None; paper = Some sort.Granted; grants = true }
effects (RefuseExtension text) = record plain { ask = Some None; paper = Some sort.Refused; text = text }
effects BeginWork = record plain { stage = Some stage.Working; anchor = true }
effects (RequestInspection step) = record plain { request = Some (Some step); anchor = true }
effects (ApproveStep step) = record plain { stage = stage_of_step step; step = Some step; request = Some None; anchor = true }
effects (Notice text) = record plain { request = Some None; notice = true; paper = Some sort.Notice; text = text; anchor = true }
effects (ClearNotice paper) = record plain { cleared = Some paper }
effects (Stop text conditions) = record plain { stops = true; paper = Some sort.Stop; text = text; terms = conditions }
effects Lift = record plain { lifts = true; paper = Some sort.Lifted }
effects (Revoke text) = record plain { stage = Some stage.Revoked; paper = Some sort.Revoked; text = text }
effects (Temporary days text) = record plain { temporary = Some days; paper = Some sort.Temporary; days = days; text = text }
effects Certify = record plain { stage = Some stage.Certified; paper = Some sort.Certificate }
