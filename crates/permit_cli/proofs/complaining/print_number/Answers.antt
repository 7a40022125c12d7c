use Rattle.std.proofs.Common.{◌++◌, List, ℕ, subst}
use Rattle.permit_subcommands.specs.Printing.{Prints}
use Rattle.permit_cli.proofs.complaining.print_number.Goals as goal

pub returns : goal.returns
returns g c =
    subst (λ (shown : List ℕ). Prints (c.args.before.now ++ (shown ++ c.args.after.now)) (g.E.Write.contents c.args.err.now)
    (g.E.Write.contents c.print_three.new.err) c.print_three.result)
    c.format.ensures.text c.print_three.ensures
