use Rattle.permit_subcommands.proofs.Printed.{prints_both}
use Rattle.permit_cli.proofs.complaining.print_two.Goals as goal

pub returns : goal.returns
returns g c = prints_both c.args.first.now c.args.second.now _ _ _ _ c.in_ok-print_text.ensures c.print_text-2.ensures
