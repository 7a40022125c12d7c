use Rattle.std.proofs.Common.{◌≡◌, ◌≤◌, ◌∙◌, length, lit≤}
use Rattle.std.proofs.Math.Nat.{le_trans}
use Rattle.permit_answer.specs.AnswerText.{denied_text}
use Rattle.permit_answer.proofs.Buffers.{push_on, push_as, push_first, fitting}
use Rattle.permit_answer.proofs.Lengths.{denied_short, name_short}
use Rattle.permit_answer.proofs.in_place.denied_body.Goals as goal

pub returns : goal.returns
returns c =
    let short : length (denied_text c.args.rule.now) ≤ 128 = denied_short c.args.rule.now (name_short c.args.rule.now c.as_str.ensures.within) in
    let text : c.push_bytes-3.new.self ≡ denied_text c.args.rule.now =
    fitting _ (denied_text c.args.rule.now) (le_trans short (lit≤ tt))
    (push_on _ _ _ _ (push_as _ _ _ _ _ (push_first _ _ _ c.new-text.ensures c.push_bytes.ensures)
    (c.as_bytes.ensures.value ∙ c.as_str.ensures.same) c.push_bytes-2.ensures) c.push_bytes-3.ensures) in
    record { text = text; short = rw text short }
