-- A run of requests as they were served or imported is one of exchanges.
use Rattle.std.proofs.Common.{◌≡◌, ℕ, List, [], ◌∷◌, subst, sym}
use Rattle.permit_base.specs.declared.request.Asked.{Asked}
use Rattle.permit_hall.specs.Runs.{Entry, Runs as ServedRuns}
use Rattle.permit_import.specs.Runs.{Runs as ImportRuns}
use Rattle.permit_office.specs.Office.{OfficeView}
use Rattle.permit_office.specs.declared.log.Log.{Ghosts}
use Rattle.permit_office.specs.declared.reply.Reply.{Reply}
use Rattle.permit_recorded.specs.Runs.{Runs}
use Rattle.permit_store.specs.Frames.{StoreView}
use Rattle.permit_wire.specs.Serving.{Steps, StepsOn}
use Rattle.permit_wire.specs.declared.service.Dated.{Dated}
use Rattle.permit_database.specs.Exchanges.{exchanges, exchanges_of}

module _ {S L : Type 0} (view : S → StoreView) (log : Ghosts L) where
  pub served_runs : (s t : OfficeView S L) (served : List (Entry Asked Dated)) → ServedRuns (StepsOn view log) s served t →
      Runs (λ asked day reply. Steps view log day asked reply) s (exchanges_of served) t
  served_runs s t [] run = run
  served_runs s t (e ∷ es) run = (run.0, run.1.0, served_runs run.0 t es run.2)

  pub import_runs : (requests : List (Asked × ℕ)) (replies : List Reply) (s t : OfficeView S L) → ImportRuns (StepsOn view log) requests replies s t →
      Runs (λ asked day reply. Steps view log day asked reply) s (exchanges requests replies) t
  import_runs [] [] s t run = sym run
  import_runs [] (reply ∷ replies) s t run = absurd run
  import_runs (request ∷ requests) [] s t run = absurd run
  import_runs (request ∷ requests) (reply ∷ replies) s t run =
      (run.0, subst (λ r. Steps view log request.1 request.0 r s run.0) run.1.2 run.1.1.0, import_runs requests replies run.0 t run.2)
