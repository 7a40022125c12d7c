use Rattle.std.proofs.Common.{◌++◌, ap, ◌∙◌, codes}
use Rattle.permit_answer.specs.AnswerText.{head_text}
use Rattle.permit_answer.proofs.Buffers.{whole_push}
use Rattle.permit_answer.proofs.in_place.in_place.Goals as goal

pub returns : goal.returns
returns c =
    whole_push c.head-text.result c.args.body.now c.as_slice.result.now c.push_bytes.new.self c.head-text.ensures.short c.requires c.as_slice.ensures c.push_bytes.ensures
    ∙ ap (λ x. x ++ c.args.body.now) (c.head-text.ensures.text ∙ ap (λ n. head_text c.args.status
    (codes "application/json") n c.args.close) c.len.ensures.count)
