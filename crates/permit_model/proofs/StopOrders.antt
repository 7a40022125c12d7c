-- Stop work orders and lifts take turns.
use Rattle.std.proofs.Common.{◌≡◌, ◌≤◌, ℕ, ◌+◌, true, false, List, [], ◌∷◌, arith}
use Rattle.std.specs.Prelude.{Option}
use Rattle.std.proofs.lemmas.Bool.{lt-ltb, le-ltb}
use Rattle.permit_base.specs.declared.request.Command.{Command}
use Rattle.permit_base.specs.declared.request.Command.TheVariants.{Stop, Lift}
use Rattle.permit_model.specs.Search.{how_many}
use Rattle.permit_model.specs.Effects.{effects}
use Rattle.permit_model.specs.Files.{Filing, Act}
use Rattle.permit_model.specs.Work.{is_stopped}
use Rattle.permit_model.proofs.Projection.{WasAdmitted, WereAdmitted}
use Rattle.permit_model.proofs.Deadlines.{act_by}

abbrev pub stops : List Act → ℕ
stops acts = how_many (λ act. (effects act.command).stops) acts

abbrev pub lifts : List Act → ℕ
lifts acts = how_many (λ act. (effects act.command).lifts) acts

-- as many orders as lifts, or one more
abbrev pub TakeTurns : List Act → Type 0
TakeTurns acts = (lifts acts ≤ stops acts) × (stops acts ≤ lifts acts + 1)

turns_more : (filing : Filing) (caller day : ℕ) (command : Command) (number : Option ℕ) (before : List Act) →
    WasAdmitted filing (act_by caller day command number) before → TakeTurns before → TakeTurns (act_by caller day command number ∷ before)
turns_more filing caller day command number before w ih = grind arith

-- stop work orders and lifts take turns, starting with an order
pub take_turns : (filing : Filing) (acts : List Act) → WereAdmitted filing acts → TakeTurns acts
take_turns filing [] w = (omega arith, omega arith)
take_turns filing (act ∷ before) w = turns_more filing act.caller act.day act.command act.number before w.0 (take_turns filing before w.1)

-- after an order the file is stopped
pub stopped_by_order : (filing : Filing) (caller day : ℕ) (text conditions : List ℕ) (number : Option ℕ) (before : List Act) → WereAdmitted filing before →
    is_stopped (act_by caller day (Stop text conditions) number ∷ before) ≡ true
stopped_by_order filing caller day text conditions number before w = grind (arith, take_turns, lt-ltb)

-- after a lift it isn't
pub released_by_lift : (filing : Filing) (caller day : ℕ) (number : Option ℕ) (before : List Act) → WereAdmitted filing before →
    is_stopped (act_by caller day Lift number ∷ before) ≡ false
released_by_lift filing caller day number before w = grind (arith, take_turns, le-ltb)
