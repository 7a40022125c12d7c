use Rattle.std.proofs.Common.{rules, refl}
use Rattle.std.proofs.lemmas.Result.{on_ok_weaker}
use Rattle.serde_json.specs.Data.{string}
use Rattle.permit_base.specs.Words.{step_word}
use Rattle.permit_answer.proofs.Sending.{array_sent, each_more}
use Rattle.permit_answer.proofs.rows.send_steps.Goals as goal

pub loop-step-preserved : goal.loop-step-preserved
loop-step-preserved g c =
    each_more (λ step. string (step_word step)) c.args.steps.now c.loop-step.step-index _ _ _ _ c.loop-step.invariant (rw c.word.ensures at c.in_ok-str.ensures)
    (search rules) (search rules)

pub returns : goal.returns
returns g c =
    on_ok_weaker c.end_seq.result (array_sent (λ step. string (step_word step)) _ _ _ _ _ _ _ _ refl (search rules)
    (search rules) c.in_ok-begin_seq.ensures c.loop-step.invariant) c.end_seq.ensures
