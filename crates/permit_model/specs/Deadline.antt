-- The deadline of a file: the greatest day to which an anchor reaches.
use Rattle.std.specs.Prelude.{ℕ, ◌+◌, if◌then◌else◌, List, [], ◌∷◌, Option, None, Some, unwrap_or, map}
use Rattle.permit_base.specs.declared.words.Stage.{Stage}
use Rattle.permit_base.specs.declared.stages.Expiry.{Expiry}
use Rattle.permit_base.specs.declared.stages.Expiry.TheVariants.{Never, Application, Permit}
use Rattle.permit_base.specs.Stages.{stage_facts}
use Rattle.permit_base.specs.declared.request.Command.{Command}
use Rattle.permit_model.specs.Days.{term, greatest}
use Rattle.permit_model.specs.Effects.{effects}
use Rattle.permit_model.specs.Files.{Act, CaseFile}
use Rattle.permit_model.specs.Work.{pending_ask}
use Rattle.permit_model.specs.BaseStage.{base_stage}

-- the days that a command grants: those of the ask that is pending before it
abbrev pub days_granted : Command → List Act → ℕ
days_granted command before = if (effects command).grants then unwrap_or (pending_ask before) 0 else 0

-- a day to which an anchor reaches, with the days that are granted after it
abbrev pub extended : ℕ → List ℕ → List ℕ
extended days reaches = map (λ reach. reach + days) reaches

-- how far the application reaches: its day, the term, and the days of each extension granted since
abbrev pub filing_reach : ℕ → List Act → ℕ
filing_reach filed [] = filed + term
filing_reach filed (act ∷ before) = filing_reach filed before + days_granted act.command before

-- how far the issue and each activity reach: its day, the term, and the days of each extension granted after it
abbrev pub anchor_reaches : List Act → List ℕ
anchor_reaches [] = []
anchor_reaches (act ∷ before) =
    if (effects act.command).anchor
    then (act.day + term) ∷ extended (days_granted act.command before) (anchor_reaches before)
    else extended (days_granted act.command before) (anchor_reaches before)

-- the deadline of what expires: the filing's reach for an application, the greatest reach for a permit
abbrev pub deadline_by : Expiry → ℕ → List Act → Option ℕ
deadline_by Never filed acts = None
deadline_by Application filed acts = Some (filing_reach filed acts)
deadline_by Permit filed acts = greatest (anchor_reaches acts)

-- the deadline in a stage
abbrev pub deadline_in : Stage → ℕ → List Act → Option ℕ
deadline_in s filed acts = deadline_by (stage_facts s).expiry filed acts

-- the deadline of a file, where there is one
abbrev pub deadline : CaseFile → Option ℕ
deadline file = deadline_in (base_stage file.acts) file.filing.filed file.acts
