use Rattle.std.proofs.Common.{take}
use Rattle.serde.specs.Event.{WritesEach}
use Rattle.serde_json.specs.Data.{string}
use Rattle.serde_json.specs.Events.{SendsValue}
use Rattle.permit_base.specs.Words.{step_word}
use Rattle.permit_answer.proofs.rows.send_steps.Given as goal

abbrev pub invariant-loop-step : goal.invariant-loop-step
invariant-loop-step g l = WritesEach (λ step. SendsValue (string (step_word step))) (take l.step-index l.steps) (g.S.Serializer.written l.initial.out)
    (g.S.Serializer.written l.out)
