-- What is reported of a database whose tables are tested.
use Rattle.std.specs.Prelude.{◌≡◌, Bool, IsTrue, Result, Ok, Err, Some}
use Rattle.sqlite.specs.Effect.{Database}
use Rattle.permit_base.specs.declared.words.Edition.TheVariants.{Second}
use Rattle.permit_model.specs.Tables.{Tables}
use Rattle.permit_store.specs.declared.store.OpenError.TheVariants as opening
use Rattle.permit_sql_rows.specs.Kept.{Keeps}
use Rattle.permit_sql.specs.First.{IsFirst}
use Rattle.permit_sql.specs.Found.{AreTyped, CountsSound, KeepsSound}
use Rattle.permit_sql.specs.Named.{breaks}
use Rattle.permit_sql.specs.Opening.{HasOtherVersion}
use Rattle.permit_sql.specs.declared.fault.Fault.{Fault}
use Rattle.permit_subcommands.specs.declared.failure.Failure.{Failure}
use Rattle.permit_subcommands.specs.declared.failure.Failure.TheVariants as failure
use Rattle.permit_database.specs.declared.outcome.Outcome.{Outcome}
use Rattle.permit_database.specs.declared.outcome.Outcome.TheVariants as outcome

-- The place is of a database that keeps no sound tables. Of typed tables that it keeps the rule is false there, and it is the first
-- such place.
pub record IsPlaceOf (db : Database) (fault : Fault) : Type 0 where
  pub unsound : ¬ KeepsSound db
  pub false_there : (t : Tables) → AreTyped t → Keeps t db → IsTrue (breaks t fault)
  pub first : (t : Tables) → AreTyped t → Keeps t db → IsFirst t (Some fault)

-- a place, or none, and then the tables aren't reported as sound either
abbrev pub IsNamedAs : Database → Result Outcome Failure → Type 0
IsNamedAs db (Ok (outcome.Unsound fault)) = IsPlaceOf db fault
IsNamedAs db (Ok _) = ⊥
IsNamedAs db (Err why) = why ≡ failure.Database opening.Damaged

-- Sound tables, with the counts of their desk, or a place where one is asked for; or why there is neither. A failed call and
-- refused memory say nothing of the tables.
abbrev pub IsCheckedAs : Bool → Database → Result Outcome Failure → Type 0
IsCheckedAs why db (Ok (outcome.Sound desk)) = CountsSound db desk
IsCheckedAs why db (Ok (outcome.Unsound fault)) = IsTrue why × IsPlaceOf db fault
IsCheckedAs why db (Ok _) = ⊥
IsCheckedAs why db (Err (failure.Database opening.Damaged)) = ¬ KeepsSound db
IsCheckedAs why db (Err (failure.Database opening.Version)) = HasOtherVersion Second db
IsCheckedAs why db (Err (failure.Database opening.Store)) = Unit {0}
IsCheckedAs why db (Err _) = ⊥
