use Rattle.std.proofs.Common.{◌≡◌, ◌≤◌, ◌∙◌, length, lit≤}
use Rattle.std.proofs.Math.Nat.{le_trans}
use Rattle.permit_base.specs.Words.{reason_word}
use Rattle.permit_answer.specs.AnswerText.{not_admitted_text}
use Rattle.permit_answer.proofs.Buffers.{push_on, push_as, push_first, fitting}
use Rattle.permit_answer.proofs.Lengths.{not_admitted_short}
use Rattle.permit_answer.proofs.in_place.not_admitted_body.Goals as goal

pub returns : goal.returns
returns c =
    let short : length (not_admitted_text (reason_word c.args.reason)) ≤ 128 = not_admitted_short c.args.reason in
    let text : c.push_bytes-3.new.self ≡ not_admitted_text (reason_word c.args.reason) =
    fitting _ (not_admitted_text (reason_word c.args.reason)) (le_trans short (lit≤ tt))
    (push_on _ _ _ _ (push_as _ _ _ _ _ (push_first _ _ _ c.new-text.ensures c.push_bytes.ensures)
    (c.as_bytes.ensures.value ∙ c.word.ensures) c.push_bytes-2.ensures) c.push_bytes-3.ensures) in
    record { text = text; short = rw text short }
