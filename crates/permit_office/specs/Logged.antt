-- What a step makes of the log, and how many calls of the store failed on the way.
use Rattle.std.specs.Prelude.{◌≡◌, ◌⊎◌, ℕ, false, List, Option, Some, Result, Ok, Err}
use Rattle.permit_base.specs.declared.refusal.Refusal.TheVariants as refusal
use Rattle.permit_base.specs.declared.request.Request.{Request}
use Rattle.permit_model.specs.History.{History}
use Rattle.permit_model.specs.Machine.{Done, step_as}
use Rattle.permit_model.specs.Policy.{Policy}
use Rattle.permit_store.specs.declared.store.StoreError.{StoreError}
use Rattle.permit_store.specs.Counts.{next_count}
use Rattle.permit_store.specs.Frames.{StoreView, HasOneDesk, OverHistory}
use Rattle.permit_office.specs.declared.log.Log.{Ghosts}
use Rattle.permit_office.specs.declared.reply.Reply.{Reply as Given}
use Rattle.permit_office.specs.declared.reply.Reply.TheVariants as given
use Rattle.permit_office.specs.Callers.{number_of}
use Rattle.permit_office.specs.Logs.{Noted, note, IsWithdrawing}
use Rattle.permit_office.specs.Office.{OfficeView}
use Rattle.permit_office.specs.Reach.{reach_of, FailedBy}

-- the reply to an attempt: where it failed, the store's refusal
abbrev pub replied : Result Given StoreError → Given
replied (Ok reply) = reply
replied (Err e) = given.Refused refusal.Store

-- by the machine the request is a command of this caller which is done, and its record gets this number
abbrev pub IsDoneFor : Policy → History → List ℕ → Request → ℕ → ℕ → Option ℕ → Type 0
IsDoneFor policy h digest asked day caller number = (number_of h digest ≡ Some caller) × ((step_as policy h digest asked day).reply ≡ Done number)

-- the log takes no commands, or couldn't enter one
abbrev pub LogFailed : {L : Type 0} → Ghosts L → L → L → Type 0
LogFailed log old new = (log.is_open old ≡ false) ⊎ ((noted : Noted) × log.refused old noted new)

module _ {S L : Type 0} (view : S → StoreView) (log : Ghosts L) where
  -- the command was entered before it was done
  pub record WasEntered (digest : List ℕ) (asked : Request) (day : ℕ) (old new : OfficeView S L) (number : Option ℕ) : Type 0 where
    pub caller : ℕ
    pub is : OverHistory (view old.store) (view new.store) (λ h. IsDoneFor old.policy h digest asked day caller number)
    pub entered : log.entered old.log (note caller asked number day) new.log

  -- The command couldn't be entered: no call failed, none commits, and a store that is without doubt can be read.
  pub record WasRefused (digest : List ℕ) (asked : Request) (day : ℕ) (old new : OfficeView S L) : Type 0 where
    pub caller : ℕ
    pub number : Option ℕ
    pub is : OverHistory (view old.store) (view new.store) (λ h. IsDoneFor old.policy h digest asked day caller number)
    pub refused : log.refused old.log (note caller asked number day) new.log
    pub one : (view new.store).doubt ≡ 0 → HasOneDesk (view new.store)
    pub failed : (view new.store).failed ≡ (view old.store).failed
    pub commits : (view new.store).commits ≡ (view old.store).commits

  -- The command was entered, its commit failed, and it was withdrawn. The store is the one between the commit and the withdrawing.
  pub record WasWithdrawn (digest : List ℕ) (asked : Request) (day : ℕ) (old new : OfficeView S L) : Type 0 where
    pub caller : ℕ
    pub number : Option ℕ
    pub between : S
    pub is : OverHistory (view old.store) (view new.store) (λ h. IsDoneFor old.policy h digest asked day caller number)
    pub failed : (view between).failed ≡ next_count (view old.store).failed
    pub commits : (view between).commits ≡ next_count (view old.store).commits
    pub withdrawing : IsWithdrawing (view between) (view new.store)
    pub withdrawn : log.withdrawn old.log (note caller asked number day) (view between) (view new.store) new.log

  -- Of a command that is done, it was entered. After any other reply the log is as it was, unless the store's refusal means that
  -- a command couldn't be entered, or was withdrawn.
  abbrev pub Logged : List ℕ → Request → ℕ → OfficeView S L → OfficeView S L → Given → Type 0
  Logged digest asked day old new (given.Done number) = WasEntered digest asked day old new number
  Logged digest asked day old new (given.Refused refusal.Store) =
      (new.log ≡ old.log) ⊎ (WasRefused digest asked day old new ⊎ WasWithdrawn digest asked day old new)
  Logged digest asked day old new reply = new.log ≡ old.log

  -- The count of failed calls after a reply, as without a log; or none failed, and the log did; or the commit failed, and what was
  -- called to withdraw the command may have.
  abbrev pub FailedWith : List ℕ → Request → ℕ → OfficeView S L → OfficeView S L → Given → Type 0
  FailedWith digest asked day old new (given.Refused refusal.Store) =
      FailedBy (reach_of asked) (given.Refused refusal.Store) (view old.store).failed (view new.store).failed
      ⊎ ((LogFailed log old.log new.log × ((view new.store).failed ≡ (view old.store).failed)) ⊎ WasWithdrawn digest asked day old new)
  FailedWith digest asked day old new reply = FailedBy (reach_of asked) reply (view old.store).failed (view new.store).failed
