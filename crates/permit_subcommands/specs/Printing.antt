-- What the program prints.
use Rattle.std.specs.Prelude.{◌≡◌, ◌⊎◌, ℕ, List, Option, Result, Ok, Err, string_bytes}
use Rattle.std.specs.Io.KnownBytes.{Appends}
use Rattle.permit_report.specs.Outgoing.{WroteFront}
use Rattle.permit_args.specs.declared.plan.PlanFault.{PlanFault}
use Rattle.permit_args.specs.declared.plan.PlanFault.TheVariants.{Help, Words, Memory}
use Rattle.permit_subcommands.specs.declared.failure.Failure.{Failure}
use Rattle.permit_subcommands.specs.declared.failure.Failure.TheVariants.{Output}

-- a text is printed whole; or the output failed, and a prefix of it is printed, which isn't the whole
abbrev pub Prints : List ℕ → Option (List ℕ) → Option (List ℕ) → Result (Unit {0}) Failure → Type 0
Prints text before after (Ok done) = Appends before after text
Prints text before after (Err why) = (why ≡ Output) × WroteFront before after text

-- Where words give no plan: help is printed, with status 0, or a prefix of it where the output failed, with 1. Bad words have 2
-- and want of memory 1, and nothing is printed.
abbrev pub TellsNoPlan : PlanFault → Option (List ℕ) → Option (List ℕ) → ℕ → Type 0
TellsNoPlan (Help text) before after status =
    ((status ≡ 0) × Appends before after (string_bytes text)) ⊎ ((status ≡ 1) × WroteFront before after (string_bytes text))
TellsNoPlan (Words text) before after status = (status ≡ 2) × (after ≡ before)
TellsNoPlan Memory before after status = (status ≡ 1) × (after ≡ before)
