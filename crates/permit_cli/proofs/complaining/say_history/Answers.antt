use Rattle.std.proofs.Common.{ap}
use Rattle.std.specs.Prelude.{codes, decimal}
use Rattle.permit_subcommands.specs.Failures.{failure_line}
use Rattle.permit_subcommands.specs.declared.failure.Failure.TheVariants as failure
use Rattle.permit_subcommands.specs.declared.failure.HistoryFailure.{HistoryFailure}
use Rattle.permit_subcommands.specs.declared.failure.HistoryFailure.TheVariants as history
use Rattle.permit_cli.proofs.Complaints.{known_said, line_said}
use Rattle.permit_cli.proofs.complaining.say_history.Goals as goal

pub returns-in-Differs : goal.returns-in-Differs
returns-in-Differs g c = known_said _ (failure.History history.Differs) _ _ _ (ap failure.History c.in-Differs.is) c.print_text.ensures

pub returns-in-Short : goal.returns-in-Short
returns-in-Short g c = known_said _ (failure.History history.Short) _ _ _ (ap failure.History c.in-Short.is) c.print_text-in-Short.ensures

pub returns-in-Exists : goal.returns-in-Exists
returns-in-Exists g c = known_said _ (failure.History history.Exists) _ _ _ (ap failure.History c.in-Exists.is) c.print_text-in-Exists.ensures

pub returns-in-Copy : goal.returns-in-Copy
returns-in-Copy g c = known_said _ (failure.History history.Copy) _ _ _ (ap failure.History c.in-Copy.is) c.print_text-in-Copy.ensures

pub returns-in-Store : goal.returns-in-Store
returns-in-Store g c = known_said _ (failure.History history.Store) _ _ _ (ap failure.History c.in-Store.is) c.print_text-in-Store.ensures

pub returns-in-Line : goal.returns-in-Line
returns-in-Line g c =
    line_said (failure_line (failure.History c.args.why)) (codes "history: line ") (decimal c.in-Line.line) (codes "\n") _ _ _
    (ap (λ (w : HistoryFailure). failure_line (failure.History w)) c.in-Line.is) c.print_number.ensures

pub returns-in-Changed : goal.returns-in-Changed
returns-in-Changed g c = known_said _ (failure.History history.Changed) _ _ _ (ap failure.History c.in-Changed.is) c.print_text-in-Changed.ensures

pub returns-in-Itself : goal.returns-in-Itself
returns-in-Itself g c = known_said _ (failure.History history.Itself) _ _ _ (ap failure.History c.in-Itself.is) c.print_text-in-Itself.ensures

pub returns-in-Unused : goal.returns-in-Unused
returns-in-Unused g c = known_said _ (failure.History history.Unused) _ _ _ (ap failure.History c.in-Unused.is) c.print_text-in-Unused.ensures
