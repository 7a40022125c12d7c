use Rattle.std.proofs.Common.{List, ℕ, inr, subst}
use Rattle.permit_subcommands.specs.Printing.{Prints}
use Rattle.permit_cli.specs.Telling.{about}
use Rattle.permit_cli.proofs.listening.try_address.Goals as goal

pub returns-in-Ok-2-clause-warns : goal.returns-in-Ok-2-clause-warns
returns-in-Ok-2-clause-warns g c =
    inr (
      c.print_about.result,
      subst (λ (l : List ℕ). Prints (about c.args.address.now l) (g.E.Write.contents c.args.err.now) (g.E.Write.contents c.print_about.new.err) c.print_about.result)
          c.unencrypted_text.ensures c.print_about.ensures,
    )
