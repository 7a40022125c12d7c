use Rattle.permit_cli.proofs.Doings.{says_named}
use Rattle.permit_cli.proofs.Failings.{serves_fail}
use Rattle.permit_cli.proofs.program.serve_on_days.Goals as goal
