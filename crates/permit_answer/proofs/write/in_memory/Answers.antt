use Rattle.std.proofs.Common.{◌≡◌, ◌++◌, length, ap, ◌∙◌, rules}
use Rattle.std.specs.Prelude.{vec_len}
use Rattle.permit_answer.specs.AnswerText.{head_text}
use Rattle.permit_answer.proofs.Making.{turned}
use Rattle.permit_answer.proofs.write.in_memory.Goals as goal

pub returns : goal.returns
returns c =
    let size : c.len.result ≡ length c.args.body.items = search rules in
    turned c.args.body.items c.head-head.result c.extend_from_slice.new.self.items c.rotate_right.new.self.items
    (vec_len c.extend_from_slice.new.self) c.len-2.result (search rules) (search rules) (search rules) c.rotate_right.ensures.items
    ∙ ap (λ h. h ++ c.args.body.items) c.head-head.ensures.text
    ∙ ap (λ n. head_text 200 c.args.content_type.now n c.args.close ++ c.args.body.items) size
