-- What becomes of a decision where an admitted change is entered into a log before it is made.
use Rattle.std.specs.Prelude.{◌≡◌, ◌⊎◌, ℕ, Result, Ok, Err}
use Rattle.permit_base.specs.declared.request.Request.{Request}
use Rattle.permit_store.specs.declared.store.StoreError.{StoreError}
use Rattle.permit_store.specs.Frames.{StoreView, IsCommit}
use Rattle.permit_office.specs.declared.decision.Decision.{Decision}
use Rattle.permit_office.specs.declared.decision.Decision.TheVariants as decision
use Rattle.permit_office.specs.declared.log.Log.{Ghosts}
use Rattle.permit_office.specs.declared.reply.Reply.{Reply as Given}
use Rattle.permit_office.specs.Decisions.{IsCarriedOut}
use Rattle.permit_office.specs.Logs.{Noted, note, IsStill, IsWithdrawing}

-- a change that is admitted is entered, or that is refused; of a reply there is nothing to enter
abbrev pub Enters : {L A : Type 0} → Ghosts L → Request → ℕ → Decision → L → L → Result A StoreError → Type 0
Enters log asked day (decision.Answered reply) old new (Ok done) = new ≡ old
Enters log asked day (decision.Answered reply) old new (Err e) = ⊥
Enters log asked day (decision.Admitted by number change) old new (Ok done) = log.entered old (note by asked number day) new
Enters log asked day (decision.Admitted by number change) old new (Err e) = log.refused old (note by asked number day) new

module _ {S L : Type 0} (view : S → StoreView) (log : Ghosts L) where
  -- the commit of what was entered failed, and it was withdrawn
  pub record IsUndone (noted : Noted) (old new : S) (before after : L) (e : StoreError) : Type 0 where
    pub between : S
    pub commit : IsCommit {A = Given} (view old) (view between) (Err e)
    pub withdrawing : IsWithdrawing (view between) (view new)
    pub withdrawn : log.withdrawn before noted (view between) (view new) after

  -- A reply is given, and nothing is called. A change is entered and then made; or it can't be entered, and nothing is called; or
  -- its commit fails, and it is withdrawn.
  abbrev pub IsCarriedOutWith : Request → ℕ → Decision → S → S → L → L → Result Given StoreError → Type 0
  IsCarriedOutWith asked day (decision.Answered reply) old new before after result =
      IsCarriedOut (decision.Answered reply) (view old) (view new) result × (after ≡ before)
  IsCarriedOutWith asked day (decision.Admitted by number change) old new before after (Ok reply) =
      IsCarriedOut (decision.Admitted by number change) (view old) (view new) (Ok reply) × log.entered before (note by asked number day) after
  IsCarriedOutWith asked day (decision.Admitted by number change) old new before after (Err e) =
      (IsStill (view old) (view new) × log.refused before (note by asked number day) after)
      ⊎ IsUndone (note by asked number day) old new before after e
