-- What work on a database comes to, and which failures it may come to, whatever the disk gives.
use Rattle.std.specs.Prelude.{◌≡◌, ◌⊎◌, ℕ, true, List, Option}
use Rattle.permit_subcommands.specs.declared.failure.Failure.{Failure}
use Rattle.permit_database.specs.Doing.{IsBegin, IsCheck, IsReplay, IsStood, IsToldOf, IsUpgrade, SaysIn, SaysOpening}
use Rattle.permit_database.specs.Failing.{FailsIn, IsOfHistory, IsUnfounded, IsUnrenewed, IsUnusable, OrOfHistory, OrOfText}
use Rattle.permit_database.specs.declared.outcome.Outcome.{Outcome}
use Rattle.permit_database.specs.declared.outcome.Outcome.TheVariants as outcome
use Rattle.permit_database.specs.declared.work.Work.{Work}
use Rattle.permit_database.specs.declared.work.Work.TheVariants as work

abbrev pub ComesOf : {H R B : Type 0} → Work H R B → Option (List ℕ) → Option (List ℕ) → Outcome → Type 0
ComesOf (work.Found founder journal) before after done = done ≡ outcome.Founded
ComesOf work.Upgrade before after done = IsUpgrade done
ComesOf (work.Begin journal old) before after done = IsBegin done
ComesOf (work.Check why) before after done = IsCheck why done
ComesOf (work.Compare begins source) before after done = IsStood done
ComesOf (work.Difference begins source) before after done = IsCheck true done
ComesOf (work.Renew party token history) before after done = done ≡ outcome.Renewed party
ComesOf (work.Replay begins founder source again) before after done = IsReplay done
ComesOf (work.Ask policy day question history) before after done = IsToldOf day question before after done

abbrev pub FailsAt : {H R B : Type 0} → Work H R B → Option (List ℕ) → Option (List ℕ) → Failure → Type 0
FailsAt (work.Found founder journal) before after why = OrOfHistory journal (IsUnfounded why) why
FailsAt work.Upgrade before after why = IsUnusable why
FailsAt (work.Begin journal old) before after why = IsUnusable why ⊎ IsOfHistory why
FailsAt (work.Check asked) before after why = IsUnusable why
FailsAt (work.Compare begins source) before after why = IsUnusable why ⊎ IsOfHistory why
FailsAt (work.Difference begins source) before after why = IsUnusable why ⊎ IsOfHistory why
FailsAt (work.Renew party token history) before after why = OrOfText history (IsUnrenewed why) why
FailsAt (work.Replay begins founder source again) before after why = IsUnusable why ⊎ IsOfHistory why
FailsAt (work.Ask policy day question history) before after why = FailsIn history day question before after why

-- what is said on standard error on the way: nothing, but where an office is opened with its history, or asked
abbrev pub SaysAt : {H R B : Type 0} → Work H R B → Option (List ℕ) → Option (List ℕ) → Type 0
SaysAt (work.Ask policy day question history) before after = SaysIn history question before after
SaysAt (work.Renew party token history) before after = SaysOpening history before after
SaysAt (work.Begin journal old) before after = SaysOpening old before after
SaysAt _ before after = after ≡ before
