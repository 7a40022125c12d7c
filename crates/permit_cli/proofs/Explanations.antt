-- What is printed before the line of a failure.
use Rattle.std.proofs.Common.{◌≡◌, ◌++◌, ℕ, List, Option, subst, sym}
use Rattle.std.specs.Prelude.{codes}
use Rattle.permit_args.specs.declared.plan.Plan.{Plan}
use Rattle.permit_subcommands.specs.Printing.{Prints}
use Rattle.permit_subcommands.specs.declared.failure.Failure.{Failure}
use Rattle.permit_cli.specs.Explained.{Explains, PrintsLine, Said}

-- that of a failure that is known
pub known : (planned : Plan) (why found : Failure) (before after : Option (List ℕ)) (said : Said) → why ≡ found → Explains planned found before after said →
    Explains planned why before after said
known planned why found before after said is explained = subst (λ (f : Failure). Explains planned f before after said) (sym is) explained

-- a line that is known
pub line_of : (shown line : List ℕ) (before after : Option (List ℕ)) (said : Said) → shown ≡ line → Prints (shown ++ codes "\n") before after said →
    PrintsLine line before after said
line_of shown line before after said is printed = subst (λ (l : List ℕ). Prints (l ++ codes "\n") before after said) is printed
