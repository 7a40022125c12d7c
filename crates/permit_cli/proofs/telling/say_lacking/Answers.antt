use Rattle.std.proofs.Common.{◌≢◌, ◌∙◌, List, ℕ, inl, rules, subst}
use Rattle.permit_subcommands.specs.Printing.{Prints}
use Rattle.permit_cli.proofs.telling.say_lacking.Goals as goal

pub returns-in-Ok : goal.returns-in-Ok
returns-in-Ok g c =
    let some : c.args.lacking ≢ 0 = search rules in
    let said =
    subst (λ (t : List ℕ). Prints t (g.E.Write.contents c.args.err.now) (g.E.Write.contents c.print_text.new.out) c.print_text.result)
    (c.as_str.ensures.value ∙ c.in-Ok.ensures) c.print_text.ensures in
    inl (some, (c.print_text.result, said))
