use Rattle.std.proofs.Common.{◌++◌, ◌∙◌, List, ℕ, ap, sym}
use Rattle.std.specs.Prelude.{codes}
use Rattle.permit_subcommands.specs.Failures.{failure_line}
use Rattle.permit_subcommands.specs.declared.failure.Failure.TheVariants as failure
use Rattle.permit_cli.proofs.Complaints.{known_said, line_said}
use Rattle.permit_cli.proofs.complaining.say.Goals as goal

pub returns-in-File : goal.returns-in-File
returns-in-File g c =
    line_said (failure_line c.args.failure.now) (codes "cannot read ") c.as_str.result.now (codes "\n") _ _ _
    (ap failure_line c.in-File.is ∙ ap (λ (w : List ℕ). codes "cannot read " ++ w) (sym c.as_str.ensures.value)) c.print_three.ensures

pub returns-in-Listen : goal.returns-in-Listen
returns-in-Listen g c =
    line_said (failure_line c.args.failure.now) (codes "cannot listen ") c.as_str-in-Listen.result.now (codes "\n") _ _ _
    (ap failure_line c.in-Listen.is ∙ ap (λ (w : List ℕ). codes "cannot listen " ++ w) (sym c.as_str-in-Listen.ensures.value)) c.print_three-in-Listen.ensures

pub returns-in-Policy : goal.returns-in-Policy
returns-in-Policy g c = known_said _ (failure.Policy c.in-Policy.error) _ _ _ c.in-Policy.is c.say_place.ensures

pub returns-in-Against : goal.returns-in-Against
returns-in-Against g c = known_said _ (failure.Against c.in-Against.error) _ _ _ c.in-Against.is c.say_place-in-Against.ensures

pub returns-in-Facts : goal.returns-in-Facts
returns-in-Facts g c = known_said _ failure.Facts _ _ _ c.in-Facts.is c.print_text.ensures

pub returns-in-Day : goal.returns-in-Day
returns-in-Day g c = known_said _ failure.Day _ _ _ c.in-Day.is c.print_text-in-Day.ensures

pub returns-in-Zone : goal.returns-in-Zone
returns-in-Zone g c = known_said _ failure.Zone _ _ _ c.in-Zone.is c.print_text-in-Zone.ensures

pub returns-in-Output : goal.returns-in-Output
returns-in-Output g c = known_said _ failure.Output _ _ _ c.in-Output.is c.print_text-in-Output.ensures

pub returns-in-Database : goal.returns-in-Database
returns-in-Database g c =
    line_said (failure_line c.args.failure.now) (codes "database: ") c.open_word.result.now (codes "\n") _ _ _
    (ap failure_line c.in-Database.is ∙ ap (λ (w : List ℕ). codes "database: " ++ w) (sym c.open_word.ensures)) c.print_three-in-Database.ensures

pub returns-in-History : goal.returns-in-History
returns-in-History g c = known_said _ (failure.History c.in-History.why) _ _ _ c.in-History.is c.say_history.ensures
