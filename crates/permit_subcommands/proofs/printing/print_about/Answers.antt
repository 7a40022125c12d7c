use Rattle.std.proofs.Common.{◌++◌}
use Rattle.std.specs.Prelude.{codes}
use Rattle.permit_subcommands.proofs.Printed.{prints_both}
use Rattle.permit_subcommands.proofs.printing.print_about.Goals as goal

pub returns : goal.returns
returns g c =
    prints_both c.args.path.now (codes ": " ++ (c.args.line.now ++ codes "\n")) _ _ _ _ c.in_ok-print_text.ensures c.print_after_colon.ensures
