use Rattle.std.proofs.Common.{arith, ap, ◌∙◌, ◌++◌, ◌∷◌, [], take, ◌+◌, ◌%◌, ◌<◌, ◌^◌}
use Rattle.permit_answer.specs.Buffer.{room}
use Rattle.permit_answer.proofs.Buffers.{decimal_pushed, digit_pushed}
use Rattle.permit_answer.proofs.buffer.Buffer.+push_decimal.Goals as goal
use Rattle.permit_answer.proofs.buffer.Buffer.+push_decimal.Goals.{then-n-ge10, else-n-ge10}

pub returns : goal.returns
returns t c =
    let fits : c.args.n < 2 ^ 64 = omega arith in
    elim c.if-n-ge10.branch [
      | then-n-ge10 w ↦
          c.push.ensures ∙ decimal_pushed c.args.self.now c.if-n-ge10.self c.args.n w.if-n-ge10.true fits (w.self-is ∙ w.push_decimal.ensures)
      | else-n-ge10 w ↦
          c.push.ensures ∙ ap (λ x. take room (x ++ (48 + c.args.n % 10) ∷ [])) w.self-is ∙ digit_pushed c.args.self.now c.args.n w.if-n-ge10.false
    ]
