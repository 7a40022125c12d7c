use Rattle.std.proofs.Common.{◌++◌}
use Rattle.std.specs.Prelude.{codes}
use Rattle.permit_subcommands.proofs.Printed.{prints_both}
use Rattle.permit_subcommands.proofs.printing.print_after_colon.Goals as goal

pub returns : goal.returns
returns g c = prints_both (codes ": ") (c.args.line.now ++ codes "\n") _ _ _ _ c.in_ok-print_text.ensures c.print_line_of.ensures
