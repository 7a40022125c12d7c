use Rattle.std.proofs.Common.{◌≡◌, ◌≤◌, ◌<◌, ◌^◌, ap, ◌∙◌, arith, length, lit≤}
use Rattle.std.proofs.Math.Nat.{le_trans}
use Rattle.std.specs.Fmt.{decimal}
use Rattle.permit_answer.specs.AnswerText.{done_text}
use Rattle.permit_answer.proofs.Buffers.{push_on, push_as, push_first, fitting}
use Rattle.permit_answer.proofs.Lengths.{done_short}
use Rattle.permit_answer.proofs.in_place.done_body.Goals as goal

pub returns : goal.returns
returns c =
    let low : c.args.day < 2 ^ 32 = omega arith in
    let short : length (done_text c.args.day c.args.action c.args.number) ≤ 128 =
    done_short c.args.day c.args.action c.args.number low c.push_number.ensures.short in
    let day = push_as _ _ _ _ _ (push_first _ _ _ c.new-text.ensures c.push_bytes.ensures)
    (ap decimal (c.from.ensures ∙ c.get.ensures.same)) c.push_decimal.ensures in
    let done = push_as _ _ _ _ _ (push_on _ _ _ _ day c.push_bytes-2.ensures) (c.as_bytes.ensures.value ∙ c.word.ensures) c.push_bytes-3.ensures in
    let number = push_on _ _ _ _ (push_on _ _ _ _ done c.push_bytes-4.ensures) c.push_number.ensures.text in
    let text : c.push_bytes-5.new.self ≡ done_text c.args.day c.args.action c.args.number =
    fitting _ (done_text c.args.day c.args.action c.args.number) (le_trans short (lit≤ tt)) (push_on _ _ _ _ number c.push_bytes-5.ensures) in
    record { text = text; short = rw text short }
