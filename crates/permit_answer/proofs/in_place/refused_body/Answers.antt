use Rattle.std.proofs.Common.{◌≡◌, ◌≤◌, length, lit≤}
use Rattle.std.proofs.Math.Nat.{le_trans}
use Rattle.permit_answer.specs.AnswerText.{refused_text}
use Rattle.permit_answer.proofs.Buffers.{push_on, push_as, push_first, fitting}
use Rattle.permit_answer.proofs.Lengths.{refused_short}
use Rattle.permit_answer.proofs.in_place.refused_body.Goals as goal

pub returns : goal.returns
returns c =
    let short : length (refused_text c.args.word.now) ≤ 128 = refused_short c.args.word.now c.requires in
    let text : c.push_bytes-3.new.self ≡ refused_text c.args.word.now =
    fitting _ (refused_text c.args.word.now) (le_trans short (lit≤ tt))
    (push_on _ _ _ _ (push_as _ _ _ _ _
    (push_first _ _ _ c.new-text.ensures c.push_bytes.ensures) c.as_bytes.ensures.value c.push_bytes-2.ensures) c.push_bytes-3.ensures) in
    record { text = text; short = rw text short }
