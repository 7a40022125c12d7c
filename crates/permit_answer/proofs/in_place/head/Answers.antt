use Rattle.std.proofs.Common.{◌≡◌, ◌≤◌, ◌<◌, ◌^◌, ap, ◌∙◌, arith, length, take, lit≤}
use Rattle.std.proofs.Math.Nat.{le_trans}
use Rattle.std.specs.Fmt.{decimal}
use Rattle.permit_answer.specs.Buffer.{room}
use Rattle.permit_answer.specs.AnswerText.{head_text, phrase}
use Rattle.permit_answer.proofs.Buffers.{push_on, push_as, push_first, fitting}
use Rattle.permit_answer.proofs.Lengths.{head_short, head_pieces}
use Rattle.permit_answer.proofs.in_place.head.Goals as goal

pub returns : goal.returns
returns c =
    let code : c.args.status < 2 ^ 32 = omega arith in
    let phrase_short : length (phrase c.args.status) ≤ 21 = rw c.phrase.ensures.text at c.phrase.ensures.short in
    let size : c.args.size < 2 ^ 64 = omega arith in
    let short : length (head_text c.args.status c.args.content_type.now c.args.size c.args.close) ≤ 256 =
    head_short c.args.status c.args.content_type.now c.args.size c.args.close code phrase_short c.requires size in
    let status = push_as _ _ _ _ _ (push_first _ _ _ c.new-text.ensures c.push_bytes.ensures)
    (ap decimal (c.from.ensures ∙ c.as_u16.ensures.value)) c.push_decimal.ensures in
    let named = push_as _ _ _ _ _ (push_on _ _ _ _ status c.push_bytes-2.ensures) (c.as_bytes.ensures.value ∙ c.phrase.ensures.text) c.push_bytes-3.ensures in
    let typed = push_as _ _ _ _ _ (push_on _ _ _ _ named c.push_bytes-4.ensures) c.as_bytes-2.ensures.value c.push_bytes-5.ensures in
    let sized = push_on _ _ _ _ (push_on _ _ _ _ typed c.push_bytes-6.ensures) c.push_decimal-2.ensures in
    let closed = push_on _ _ _ _ (push_on _ _ _ _ (push_on _ _ _ _ sized c.push_bytes-7.ensures) c.push_challenge.ensures) c.push_closing.ensures in
    let text : c.push_bytes-8.new.self ≡ head_text c.args.status c.args.content_type.now c.args.size c.args.close =
    fitting _ (head_text c.args.status c.args.content_type.now c.args.size c.args.close) (le_trans short (lit≤ tt))
    (push_on _ _ _ _ closed c.push_bytes-8.ensures ∙ ap (take room) (head_pieces c.args.status c.args.content_type.now c.args.size c.args.close)) in
    record { text = text; short = rw text short }
