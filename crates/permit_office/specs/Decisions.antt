-- What a request comes to before anything is written.
use Rattle.std.specs.Prelude.{◌≡◌, ◌≤◌, ℕ, Option, Some, Result, Ok, Err, IfOk, OnOk, ⊤}
use Rattle.permit_model.specs.History.{History}
use Rattle.permit_model.specs.Machine.{Done, Outcome}
use Rattle.permit_model.specs.Sound.{IsSoundTables}
use Rattle.permit_model.specs.Tables.{Tables, tables}
use Rattle.permit_store.specs.Changes.{changed, Fits}
use Rattle.permit_store.specs.Frames.{StoreView, HasOneDesk, IsCommit, OverTables}
use Rattle.permit_store.specs.declared.store.StoreError.{StoreError}
use Rattle.permit_office.specs.declared.decision.Decision.{Decision}
use Rattle.permit_office.specs.declared.decision.Decision.TheVariants as decision
use Rattle.permit_office.specs.declared.reply.Reply.{Reply as Given}
use Rattle.permit_office.specs.declared.reply.Reply.TheVariants as given
use Rattle.permit_office.specs.Answers.{reply_of, IsOwn}
use Rattle.permit_office.specs.Logs.{IsStill}
use Rattle.permit_office.specs.Reach.{Reach, FailedIn, HandedIn}
use Rattle.permit_office.specs.Sound.{MayAct}

-- the reply to a request of which this is decided, once its change is made
abbrev pub reply_for : Decision → Given
reply_for (decision.Answered reply) = reply
reply_for (decision.Admitted by number change) = given.Done number

abbrev pub replies : Result Decision StoreError → Result Given StoreError
replies (Ok decided) = Ok (reply_for decided)
replies (Err e) = Err e

-- a reply that isn't that to a command which is done
abbrev pub IsUndone : Given → Type 0
IsUndone (given.Done number) = ⊥
IsUndone reply = ⊤

-- nothing is done without a change, which is this caller's, and only what failed is refused for the store
abbrev pub IsProper : ℕ → Decision → Type 0
IsProper caller (decision.Answered reply) = IsOwn reply × IsUndone reply
IsProper caller (decision.Admitted by number change) = by ≡ caller

-- a change is that of the caller
abbrev pub IsOf : Option ℕ → Decision → Type 0
IsOf caller (decision.Answered reply) = ⊤
IsOf caller (decision.Admitted by number change) = caller ≡ Some by

-- The reply is the machine's, whose tables are those before; or the change fits those and makes the machine's of them.
abbrev pub Decides : ℕ → Decision → Outcome → History → Type 0
Decides day (decision.Answered reply) outcome before = (reply_of reply ≡ outcome.reply) × (tables outcome.history ≡ tables before)
Decides day (decision.Admitted by number change) outcome before = (Done number ≡ outcome.reply) × Fits (tables before) change day
    × (changed (tables before) change day ≡ tables outcome.history)

-- a change that is admitted fits the tables and leaves them sound
abbrev pub LeavesSound : ℕ → Tables → Decision → Type 0
LeavesSound day t (decision.Answered reply) = ⊤
LeavesSound day t (decision.Admitted by number change) = Fits t change day × IsSoundTables (changed t change day)

-- Deciding only reads: any tables stay, no commit was called, and the counts are those of the reply that is to come.
pub record IsDeciding (reach : Reach) (old new : StoreView) (result : Result Given StoreError) : Type 0 where
  pub kept : (t : Tables) → old.holds t → new.holds t
  pub one : new.doubt ≡ 0 → HasOneDesk old → OnOk result (HasOneDesk new)
  pub doubt : old.doubt ≤ new.doubt
  pub failed : FailedIn reach result old.failed new.failed
  pub commits : new.commits ≡ old.commits
  pub handed : HandedIn reach result old.handed new.handed

-- what a decision of the caller on the day leaves of sound tables
abbrev pub DecidesBy : StoreView → StoreView → ℕ → ℕ → Result Decision StoreError → Type 0
DecidesBy old new caller day result = OverTables old new (λ t. IsSoundTables t → MayAct t caller day → IfOk result (LeavesSound day t))

-- a reply is given and nothing is called; a change is made by one commit, and then the reply is that it is done
abbrev pub IsCarriedOut : Decision → StoreView → StoreView → Result Given StoreError → Type 0
IsCarriedOut (decision.Answered reply) old new result = (result ≡ Ok reply) × IsStill old new
IsCarriedOut (decision.Admitted by number change) old new result = IsCommit old new result × IfOk result (λ reply. reply ≡ given.Done number)
