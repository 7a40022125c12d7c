-- The stage that a file had when a command on it was admitted.
use Rattle.std.proofs.Common.{arith, ◌≡◌, ℕ, Bool, true, false, not, sym, ◌∙◌, ap}
use Rattle.std.specs.Prelude.{◌==◌, if◌then◌else◌}
use Rattle.std.proofs.lemmas.Bool.{eqb-true}
use Rattle.permit_base.specs.declared.words.Stage.{Stage}
use Rattle.permit_base.specs.declared.words.Stage.TheVariants as stage
use Rattle.permit_base.specs.Stages.{stage_facts}
use Rattle.permit_model.specs.Codes.{stage_code, is_stage}
use Rattle.permit_model.specs.Files.{CaseFile}
use Rattle.permit_model.specs.BaseStage.{base_stage}
use Rattle.permit_model.specs.Facts.{past_stage, stage_on}
use Rattle.permit_model.specs.SoundState.{is_stored, is_timed}
use Rattle.permit_model.specs.Sound.{may_be_stopped}

-- the stage of a code
abbrev pub stage_coded : ℕ → Stage
stage_coded code =
    if code == 0 then stage.Filed else if code == 1 then stage.Review else if code == 2 then stage.Returned else if code == 3 then stage.Approved
    else if code == 4 then stage.Rejected else if code == 5 then stage.Issued else if code == 6 then stage.Working else if code == 7 then stage.Revoked
    else if code == 8 then stage.Finaled else if code == 9 then stage.Certified else if code == 10 then stage.Abandoned else if code == 11 then stage.Lapsed
    else if code == 12 then stage.New else stage.Office

coded_back : (s : Stage) → stage_coded (stage_code s) ≡ s
coded_back s = grind arith

-- stages of one code are one stage
pub same_stage : (a b : Stage) → is_stage a b ≡ true → a ≡ b
same_stage a b e = sym (coded_back a) ∙ ap stage_coded (eqb-true (stage_code a) (stage_code b) e) ∙ coded_back b

-- the only stage that is admitted
pub only_one : (s wanted : Stage) (b : Bool) → is_stage s wanted ≡ b → not b ≡ false → s ≡ wanted
only_one s wanted b e h = grind arith

-- a stored stage on the day is the stage whatever the day is
pub unpassed : (s wanted : Stage) (past : Bool) → is_stored wanted ≡ true → (if past then past_stage s else s) ≡ wanted → s ≡ wanted
unpassed s wanted past stored e = grind arith

-- a command of one stored stage was admitted in it
pub was_in : (day : ℕ) (file : CaseFile) (wanted : Stage) → is_stored wanted ≡ true → not (is_stage (stage_on day file) wanted) ≡ false →
    base_stage file.acts ≡ wanted
was_in day file wanted stored h = grind arith

-- a stop work order and a lift come in the stages in which an order may be in force
pub stoppable_from : (s : Stage) (past : Bool) → is_stored s ≡ true → not (stage_facts (if past then past_stage s else s)).stoppable ≡ false →
    may_be_stopped s ≡ true
stoppable_from s past stored h = grind arith

-- in a stage with a deadline that isn't past, the stage on the day is the stored one
pub timed_from : (s : Stage) (past : Bool) → not (is_timed (if past then past_stage s else s)) ≡ false → (if past then past_stage s else s) ≡ s
timed_from s past h = grind arith
