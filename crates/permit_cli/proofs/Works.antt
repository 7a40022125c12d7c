-- Work on a database that isn't opened.
use Rattle.std.proofs.Common.{ℕ, List, Option, inl, inr, refl}
use Rattle.permit_subcommands.specs.declared.failure.Failure.{Failure}
use Rattle.permit_database.specs.Failing.{IsUnopened}
use Rattle.permit_database.specs.Working.{FailsAt, SaysAt}
use Rattle.permit_database.specs.declared.work.Work.{Work}
use Rattle.permit_database.specs.declared.work.Work.TheVariants as work
use Rattle.permit_cli.proofs.Doings.{says_no_opening, says_no_asking}

pub unopened_at : {H R B : Type 0} (w : Work H R B) (held : Option (List ℕ)) (why : Failure) → IsUnopened why → FailsAt w held held why
unopened_at (work.Found founder journal) held why is = inl (inr is)
unopened_at work.Upgrade held why is = inr is
unopened_at (work.Begin journal old) held why is = inl (inr is)
unopened_at (work.Check asked) held why is = inr is
unopened_at (work.Compare begins source) held why is = inl (inr is)
unopened_at (work.Difference begins source) held why is = inl (inr is)
unopened_at (work.Renew party token history) held why is = inl (inr (inr (inr is)))
unopened_at (work.Replay begins founder source again) held why is = inl (inr is)
unopened_at (work.Ask policy day question history) held why is = inl (inl (inr is), refl)

-- nothing is said then
pub says_nothing_at : {H R B : Type 0} (w : Work H R B) (held : Option (List ℕ)) → SaysAt w held held
says_nothing_at (work.Found founder journal) held = refl
says_nothing_at work.Upgrade held = refl
says_nothing_at (work.Begin journal old) held = says_no_opening old held
says_nothing_at (work.Check asked) held = refl
says_nothing_at (work.Compare begins source) held = refl
says_nothing_at (work.Difference begins source) held = refl
says_nothing_at (work.Renew party token history) held = says_no_opening history held
says_nothing_at (work.Replay begins founder source again) held = refl
says_nothing_at (work.Ask policy day question history) held = says_no_asking history question held
