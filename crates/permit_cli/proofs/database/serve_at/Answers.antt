use Rattle.permit_cli.specs.Streams.{printed}
use Rattle.permit_cli.proofs.Doings.{says_no_opening}
use Rattle.permit_cli.proofs.database.serve_at.Goals as goal

pub returns-in-Err-clause-redone : goal.returns-in-Err-clause-redone
returns-in-Err-clause-redone g c = says_no_opening c.args.history (printed c.args.err.now)
