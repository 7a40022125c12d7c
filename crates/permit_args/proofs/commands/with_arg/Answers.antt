use Rattle.std.proofs.lemmas.Result.{IfOk-weaker}
use Rattle.permit_args.proofs.Added.{added}
use Rattle.permit_args.proofs.commands.with_arg.Goals as goal

pub returns : goal.returns
returns c = λ rule own is app before.
    IfOk-weaker c.arg.result _ _ (λ r h. added h own is (rw c.in_ok-command.was at before)) c.arg.ensures
