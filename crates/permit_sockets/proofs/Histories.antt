-- What was served over sockets is, for an office, one history of it, step by step.
use Rattle.std.proofs.Common.{ℕ, List}
use Rattle.std.specs.Prelude.{Result, Ok, Err, IfOk}
use Rattle.permit_base.specs.declared.request.Asked.{Asked}
use Rattle.permit_store.specs.Frames.{StoreView}
use Rattle.permit_office.specs.Office.{OfficeView}
use Rattle.permit_office.specs.declared.log.Log.{Ghosts}
use Rattle.permit_wire.specs.Serving.{StepsOn}
use Rattle.permit_wire.specs.declared.service.Dated.{Dated}
use Rattle.permit_hall.specs.OneHistory.{OneHistory}
use Rattle.permit_hall.specs.OneRun.{OneRun}
use Rattle.permit_hall.specs.Runs.{Entry, Runs}
use Rattle.permit_hall.proofs.Histories.{one_history}

module _ {S L X A E : Type 0} (view : S → StoreView) (log : Ghosts L) (tick : X → ℕ → X → Type 0) (sessions : ℕ) (old new : OfficeView S L)
    (c d : X) (ended : A → List (Entry Asked Dated) → Type 0) where
  -- where the serving ended, the run of the office is one history, and each request was one step
  pub history_of : (r : Result A E)
      → IfOk r (λ a. (served : List (Entry Asked Dated)) × OneRun (StepsOn view log) tick sessions old new c d served × ended a served)
      → IfOk r (λ a. (served : List (Entry Asked Dated)) × OneHistory view log tick sessions old new c d served
      × Runs (StepsOn view log) old served new × ended a served)
  history_of (Ok a) h = (h.0, one_history view log tick sessions old new c d h.0 h.1, h.1.runs, h.2)
  history_of (Err e) h = h
