-- The office's steps, and what whole runs of them are.
use Rattle.std.specs.Prelude.{◌≡◌, ◌≤◌, ℕ, List}
use Rattle.permit_base.specs.declared.request.Asked.{Asked}
use Rattle.permit_store.specs.Frames.{StoreView, OverHistory}
use Rattle.permit_office.specs.declared.reply.Reply.{Reply}
use Rattle.permit_office.specs.Frames.{Steps}
use Rattle.permit_office.specs.Office.{OfficeView}
use Rattle.permit_office.specs.declared.log.Log.{Ghosts}
use Rattle.permit_office.specs.Runs.{Ran}
use Rattle.permit_wire.specs.Serving.{Steps as StepOf}

-- the office made one step for a request on a day
abbrev pub StepFor : {S L : Type 0} → (S → StoreView) → Ghosts L → OfficeView S L → Asked → ℕ → Reply → OfficeView S L → Type 0
StepFor view log old asked day reply new = StepOf view log day asked reply old new

-- The office served the requests on their days, one step each, which says what became of the log. Where the store held a
-- history's tables, and is without doubt, the replies and the tables are the machine's over the requests that weren't refused
-- for the store.
pub record IsRun {S L : Type 0} (view : S → StoreView) (log : Ghosts L) (requests : List (Asked × ℕ)) (replies : List Reply) (old new : OfficeView S L)
    : Type 0 where
  pub steps : Steps view log requests replies old new
  pub model : OverHistory (view old.store) (view new.store) (λ h. Ran (view new.store).holds old.policy requests replies h)
  pub policy : new.policy ≡ old.policy
  pub doubt : (view old.store).doubt ≤ (view new.store).doubt
