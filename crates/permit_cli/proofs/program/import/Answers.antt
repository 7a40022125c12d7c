use Rattle.permit_cli.proofs.Doings.{import_says}
use Rattle.permit_cli.proofs.Failings.{if_err, imports_fail}
use Rattle.permit_cli.proofs.program.import.Goals as goal

pub returns-clause-fails : goal.returns-clause-fails
returns-clause-fails c =
    if_err c.ask_office.result (λ why failed. imports_fail c.args.words.now _ _ _ _ _ _ why c.of_import-question.ensures failed) c.ask_office.ensures.fails

pub returns-clause-says : goal.returns-clause-says
returns-clause-says c = import_says c.args.words.now _ _ _ _ _ _ c.of_import-question.ensures c.ask_office.ensures.says
