use Rattle.permit_cli.specs.Streams.{printed}
use Rattle.permit_cli.proofs.Works.{says_nothing_at, unopened_at}
use Rattle.permit_cli.proofs.database.done_at.Goals as goal

pub returns-in-Err-clause-fails : goal.returns-in-Err-clause-fails
returns-in-Err-clause-fails c = unopened_at c.args.work (printed c.args.out.now) c.in-Err.why c.in-Err.ensures

pub returns-in-Err-clause-says : goal.returns-in-Err-clause-says
returns-in-Err-clause-says c = says_nothing_at c.args.work (printed c.args.err.now)
