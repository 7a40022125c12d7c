-- What holds of each file of a history, in the words of its definitions.
use Rattle.std.proofs.Common.{◌≡◌, ◌≤◌, ℕ, ◌+◌, Bool, true, false, List, [], ◌∷◌, length, take, refl, sym, ◌∙◌, ap, arith}
use Rattle.std.specs.Prelude.{Option, Some, is_some, is_none, if◌then◌else◌}
use Rattle.std.proofs.lemmas.List.{take_all}
use Rattle.permit_base.specs.Limits.{latest_day, latest_deadline}
use Rattle.permit_base.specs.declared.words.Step.{Step}
use Rattle.permit_base.specs.declared.words.Stage.TheVariants as stage
use Rattle.permit_model.specs.Days.{term}
use Rattle.permit_model.specs.Steps.{required_steps}
use Rattle.permit_model.specs.History.{History, last_day}
use Rattle.permit_model.specs.Files.{CaseFile, case_numbered}
use Rattle.permit_model.specs.Work.{approved_steps, next_of, pending_step, open_notices, is_stopped}
use Rattle.permit_model.specs.BaseStage.{base_stage}
use Rattle.permit_model.specs.Deadline.{deadline}
use Rattle.permit_model.specs.Tables.{state_of, next_in_row}
use Rattle.permit_model.specs.SoundState.{is_timed, is_completed, is_certified}
use Rattle.permit_model.specs.Machine.{IsHistory}
use Rattle.permit_model.specs.Laws.{OfEachFile}
use Rattle.permit_model.proofs.Projection.{DoneTo, done_to}
use Rattle.permit_model.proofs.Fronts.{Fronts, fronts, next_at_count}
use Rattle.permit_model.proofs.Deadlines.{deadline_from, deadline_within}
use Rattle.permit_model.proofs.SoundStates.{IsFinishedWork, anchored, stands_in, finished, unstopped, front_length}

-- ---- steps

pub next_step_at_count : OfEachFile (λ h file. next_in_row (state_of file) ≡ next_of file)
next_step_at_count h id file is there = sym (next_at_count file.filing file.acts (done_to h id file is there).admitted)

pub requested_step_next : OfEachFile (λ h file. (step : Step) → pending_step file.acts ≡ Some step → next_of file ≡ Some step)
requested_step_next h id file is there = (fronts file.filing file.acts (done_to h id file is there).admitted).pending

pub steps_within : OfEachFile (λ h file. length (approved_steps file.acts) ≤ length (required_steps file.filing.edition file.filing.kind))
steps_within h id file is there = front_length file.filing.edition file.filing.kind (approved_steps file.acts)
    (fronts file.filing file.acts (done_to h id file is there).admitted).front

pub steps_front : OfEachFile (λ h file. approved_steps file.acts ≡ take (length (approved_steps file.acts))
    (required_steps file.filing.edition file.filing.kind))
steps_front h id file is there =
    let f : Fronts file.filing file.acts = fronts file.filing file.acts (done_to h id file is there).admitted in
    f.front.1 ∙ ap (λ n. take n (required_steps file.filing.edition file.filing.kind)) (sym f.front.3)

-- ---- finaled and certified files

none_left : (ns : List ℕ) → length ns ≡ 0 → ns ≡ []
none_left [] e = refl
none_left (n ∷ ns) e = absurd (omega (arith, e))

-- a file whose work is over has all its steps approved in order, and no open notice
work_over : (h : History) (id : ℕ) (file : CaseFile) → IsHistory h → case_numbered h id ≡ Some file → is_completed (base_stage file.acts) ≡ true →
    (approved_steps file.acts ≡ required_steps file.filing.edition file.filing.kind) × (open_notices file.acts ≡ [])
work_over h id file is there over =
    let done : IsFinishedWork file.filing file.acts = finished file.filing file.acts (done_to h id file is there).admitted over in (
      steps_front h id file is there ∙ take_all (length (approved_steps file.acts)) (required_steps file.filing.edition file.filing.kind)
          (omega (arith, done.0)),
      none_left (open_notices file.acts) done.1,
    )

pub finaled_finished : OfEachFile (λ h file. base_stage file.acts ≡ stage.Finaled →
    (approved_steps file.acts ≡ required_steps file.filing.edition file.filing.kind) × (open_notices file.acts ≡ []))
finaled_finished h id file is there e = work_over h id file is there (ap is_completed e)

pub certified_finished : OfEachFile (λ h file. base_stage file.acts ≡ stage.Certified →
    (approved_steps file.acts ≡ required_steps file.filing.edition file.filing.kind) × (open_notices file.acts ≡ []) × (is_stopped file.acts ≡ false))
certified_finished h id file is there e =
    let over = work_over h id file is there (ap is_completed e) in
    (over.0, over.1, unstopped file.filing file.acts (done_to h id file is there).admitted (ap is_certified e))

-- ---- deadlines

exactly_when : (wanted : Bool) (o : Option ℕ) → (if wanted then is_some o else is_none o) ≡ true → is_some o ≡ wanted
exactly_when wanted o e = grind arith

pub deadline_exactly : OfEachFile (λ h file. is_some (deadline file) ≡ is_timed (base_stage file.acts))
deadline_exactly h id file is there = grind (arith, exactly_when, stands_in, anchored)

pub deadline_least : OfEachFile (λ h file. (d : ℕ) → deadline file ≡ Some d → file.filing.filed + term ≤ d)
deadline_least h id file is there = deadline_from file.filing file.acts (done_to h id file is there).admitted

pub deadline_most : OfEachFile (λ h file. last_day h ≤ latest_day → (d : ℕ) → deadline file ≡ Some d → d ≤ latest_deadline)
deadline_most h id file is there early =
    let done : DoneTo h file = done_to h id file is there in
    deadline_within file.filing file.acts done.admitted (omega (arith, done.until, early))
