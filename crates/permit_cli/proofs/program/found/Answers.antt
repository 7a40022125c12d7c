use Rattle.permit_cli.proofs.Failings.{founds_fail}
use Rattle.permit_cli.proofs.program.found.Goals as goal

pub returns-in-Ok-clause-fails : goal.returns-in-Ok-clause-fails
returns-in-Ok-clause-fails c =
    founds_fail c.args.words.now c.in-Ok.journal c.done_at.result c.in-Ok.ensures.named.0 c.done_at.ensures.fails
