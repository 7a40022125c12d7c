use Rattle.permit_cli.proofs.Failings.{if_err, registers_fail}
use Rattle.permit_cli.proofs.program.register.Goals as goal

pub returns-clause-fails : goal.returns-clause-fails
returns-clause-fails c =
    if_err c.ask_office.result (λ why failed. registers_fail c.args.words.now _ _ _ _ why c.in_ok-question.ensures.asks failed) c.ask_office.ensures.fails
