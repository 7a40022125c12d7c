-- An office that is served over TCP.
use Rattle.std.specs.Prelude.{◌≡◌, ◌⊎◌, ◌<◌, ◌≤◌, ℕ, Bool, true, false, List, Option, Result, Ok, Err, All, IfNone, IfSome}
use Rattle.std.specs.List.{list_any}
use Rattle.jiff.specs.Words.{plain_zone}
use Rattle.permit_base.specs.declared.request.Asked.{Asked}
use Rattle.permit_model.specs.Policy.{Policy}
use Rattle.permit_model.specs.Sound.{IsSoundTables}
use Rattle.permit_model.specs.Tables.{Tables}
use Rattle.permit_store.specs.Frames.{StoreView, HasOneDesk}
use Rattle.permit_office.specs.Office.{OfficeView}
use Rattle.permit_office.specs.declared.log.Log.{Ghosts}
use Rattle.permit_wire.specs.Serving.{StepsOn}
use Rattle.permit_wire.specs.declared.service.Dated.{Dated}
use Rattle.permit_hall.specs.OfficeSteps.{IsRun}
use Rattle.permit_hall.specs.OneHistory.{requests_on, replies_in}
use Rattle.permit_hall.specs.Runs.{Entry, Runs}
use Rattle.permit_hall.specs.declared.doors.DoorEnd.{DoorEnd}
use Rattle.permit_import.specs.declared.refused.RefusalWord.TheVariants.{Store}
use Rattle.permit_subcommands.specs.Failures.{plain}
use Rattle.permit_subcommands.specs.declared.failure.Failure.{Failure}
use Rattle.permit_subcommands.specs.declared.failure.Failure.TheVariants.{Output}
use Rattle.permit_sockets.specs.Ending.{HaveEnded, is_stopped}
use Rattle.permit_sockets.specs.Listening.{SaysListening}
use Rattle.permit_sockets.specs.declared.connections.Connections.{Connections}
use Rattle.permit_subcommands.specs.Days.{IsClockDay}
use Rattle.permit_subcommands.specs.declared.days.RunDays.{RunDays}

-- The line of the address is written where serving succeeds. A failure but that of the output leaves the output as it was, or
-- with such a line.
abbrev pub SaysWhere : Option (List ℕ) → Option (List ℕ) → Result (Unit {0}) Failure → Type 0
SaysWhere before after (Ok done) = SaysListening before after
SaysWhere before after (Err why) = (why ≡ Output) ⊎ ((after ≡ before) ⊎ SaysListening before after)

-- it failed, and nothing was served
abbrev pub IsUnserved : {S L : Type 0} → OfficeView S L → OfficeView S L → Result (Unit {0}) Failure → Type 0
IsUnserved old new (Ok done) = ⊥
IsUnserved old new (Err why) = new ≡ old

-- what is reported of the doors' ends: the store's failure where one of them found the flag set
abbrev pub told_by : (stopped : Bool) → Result (Unit {0}) Failure
told_by true = Err (plain Store)
told_by false = Ok tt

abbrev pub told_of_ends : {C W : Type 0} → List (Option (DoorEnd (Connections C W))) → Result (Unit {0}) Failure
told_of_ends ends = told_by (list_any is_stopped ends)

-- Doors were open and have ended, by the requests served, and that is reported of them.
pub record HasEndedAs {In Out C W : Type 0} (remaining : In → Option (List ℕ)) (contents : Out → Option (List ℕ))
    (gave : Connections C W → Option (In × Out) → Connections C W → Type 0) (spent : Connections C W → Type 0) (workers : ℕ) (connections : Option ℕ)
    (before after : Option (List ℕ)) (served : List (Entry Asked Dated)) (result : Result (Unit {0}) Failure) : Type 0 where
  pub ends : List (Option (DoorEnd (Connections C W)))
  pub ended : HaveEnded remaining contents gave spent workers connections before after ends served
  pub told : result ≡ told_of_ends ends

-- how a serving ends, by the requests that it served
abbrev pub Ending : Type 1
Ending = List (Entry Asked Dated) → Result (Unit {0}) Failure → Type 0

-- The store with its tables in memory holds each of the sound tables that the other held, and can be read if it is without doubt.
-- Nothing is counted yet but file rows.
pub record IsLoaded (kept both : StoreView) : Type 0 where
  pub held : (t : Tables) → kept.holds t → IsSoundTables t → both.holds t
  pub one : both.doubt ≡ 0 → HasOneDesk both
  pub doubt : kept.doubt ≤ both.doubt
  pub counts : (both.failed ≡ 0) × (both.commits ≡ 0)

-- its tables aren't in memory, and the store still holds each of the sound ones
pub record IsUnloaded (kept back : StoreView) : Type 0 where
  pub held : (t : Tables) → kept.holds t → IsSoundTables t → back.holds t
  pub doubt : kept.doubt ≤ back.doubt

-- a day of a run: its date, or else the clock's day in its zone
abbrev pub IsDayOfRun : RunDays → ℕ → Type 0
IsDayOfRun days day = IfSome days.date (λ date. day ≡ date) × IfNone days.date (IsClockDay (plain_zone days.zone) day)

-- An office that was opened so, under the policy, is served by so many workers on the days of a run, and left so. The requests served
-- are one run of the office, of which each is one step. It has ended so, or nothing was served.
pub record IsServed {S L : Type 0} (view : S → StoreView) (log : Ghosts L) (opens leaves : OfficeView S L → Type 0) (days : RunDays)
    (HasEnded : Ending) (policy : Policy) (workers : ℕ) (before after : Option (List ℕ)) (result : Result (Unit {0}) Failure) : Type 0 where
  pub office : OfficeView S L
  pub left : OfficeView S L
  pub opens_so : opens office
  pub policy_is : office.policy ≡ policy
  pub served : List (Entry Asked Dated)
  pub run : IsRun view log (requests_on served) (replies_in served) office left
  pub runs : Runs (StepsOn view log) office served left
  pub each : All (λ e. e.from < workers) served
  pub dated : All (λ e. IsDayOfRun days e.day) served
  pub ended : HasEnded served result ⊎ IsUnserved office left result
  pub says : SaysWhere before after result
  pub leaves_so : leaves left
