use Rattle.std.proofs.Common.{List, ℕ, inl, inr, subst, sym}
use Rattle.permit_import.specs.Headings.{IsHeadingText}
use Rattle.permit_cli.proofs.explaining.explain_file.Goals as goal

pub returns-in-Some : goal.returns-in-Some
returns-in-Some g c =
    let found = c.in-Some.ensures in
    inr (inl (found.0, c.as_str.result.now, subst (λ (t : List ℕ). IsHeadingText found.0 t) (sym c.as_str.ensures.value) found.1, c.print_about.ensures))
