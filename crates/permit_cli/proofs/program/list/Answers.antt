use Rattle.permit_cli.proofs.Failings.{if_err, lists_fail}
use Rattle.permit_cli.proofs.program.list.Goals as goal

pub returns-clause-fails : goal.returns-clause-fails
returns-clause-fails c =
    if_err c.ask_office.result (λ why failed. (lists_fail c.args.words.now _ _ _ _ why c.in_ok-question.ensures.asks failed).0) c.ask_office.ensures.fails

pub returns-clause-unwritten : goal.returns-clause-unwritten
returns-clause-unwritten c =
    if_err c.ask_office.result (λ why failed. (lists_fail c.args.words.now _ _ _ _ why c.in_ok-question.ensures.asks failed).1) c.ask_office.ensures.fails
