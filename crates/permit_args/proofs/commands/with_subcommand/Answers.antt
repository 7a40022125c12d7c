use Rattle.std.proofs.lemmas.Result.{IfOk-weaker}
use Rattle.permit_args.proofs.Added.{extended}
use Rattle.permit_args.proofs.commands.with_subcommand.Goals as goal

pub returns : goal.returns
returns c = λ sub is app before.
    IfOk-weaker c.subcommand.result _ _ (λ r h. extended h (rw c.in_ok-command.was at before) (rw c.in_ok-subcommand.was at is)) c.subcommand.ensures
