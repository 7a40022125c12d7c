-- What comes of an office that is served over TCP.
use Rattle.std.proofs.Common.{◌≡◌, ◌∙◌, ◌⊎◌, ◌<◌, ℕ, Bool, true, false, List, [], ◌∷◌, Option, Result, Ok, Err, ap, inl, inr, refl, sym, subst}
use Rattle.std.specs.Prelude.{All, IfErr, OnErr}
use Rattle.std.specs.List.{list_any}
use Rattle.std.proofs.lemmas.List.Elements.{All-nil, All-cons}
use Rattle.permit_base.specs.declared.request.Asked.{Asked}
use Rattle.permit_model.specs.Policy.{Policy}
use Rattle.permit_store.specs.Frames.{StoreView}
use Rattle.permit_office.specs.Office.{OfficeView}
use Rattle.permit_office.specs.declared.log.Log.{Ghosts}
use Rattle.permit_wire.specs.Serving.{StepsOn}
use Rattle.permit_wire.specs.declared.service.Dated.{Dated}
use Rattle.permit_hall.specs.OfficeSteps.{StepFor, IsRun}
use Rattle.permit_hall.specs.OneHistory.{OneHistory}
use Rattle.permit_hall.specs.Runs.{Entry, Gives, Runs, days_of}
use Rattle.permit_hall.specs.declared.doors.DoorEnd.{DoorEnd}
use Rattle.permit_hall.proofs.OfficeRuns.{is_run}
use Rattle.permit_import.specs.declared.refused.RefusalWord.TheVariants.{Store}
use Rattle.permit_subcommands.specs.Failures.{plain}
use Rattle.permit_subcommands.specs.declared.days.RunDays.{RunDays}
use Rattle.permit_subcommands.specs.declared.failure.Failure.{Failure}
use Rattle.permit_sockets.specs.Ending.{HaveEnded, is_stopped}
use Rattle.permit_sockets.specs.declared.connections.Connections.{Connections}
use Rattle.permit_database.specs.Failing.{FailsToListen, IsOfStore, IsUnusable}
use Rattle.permit_database.specs.Served.{Ending, HasEndedAs, IsServed, IsUnserved, told_by, told_of_ends}

-- ---- how the doors ended

-- what is reported where a door found the flag set, and where none did
pub told_stopped : {C W : Type 0} (ends : List (Option (DoorEnd (Connections C W)))) (stopped : Bool) (why : Failure) → stopped ≡ list_any is_stopped ends →
    stopped ≡ true → why ≡ plain Store → Err why ≡ told_of_ends ends
told_stopped ends stopped why is found memory = ap Err memory ∙ ap told_by (sym found ∙ is)

pub told_spent : {C W : Type 0} (ends : List (Option (DoorEnd (Connections C W)))) (stopped : Bool) → stopped ≡ list_any is_stopped ends →
    stopped ≡ false → told_by false ≡ told_of_ends ends
told_spent ends stopped is unfound = ap told_by (sym unfound ∙ is)

-- ---- the run of the office, and its days

module _ {S L X : Type 0} (view : S → StoreView) (log : Ghosts L) (tick : X → ℕ → X → Type 0) (workers : ℕ) (old new : OfficeView S L) (c d : X) where
  -- doors that have ended, and what is reported of them
  pub ended_so : {In Out C W : Type 0} (remaining : In → Option (List ℕ)) (contents : Out → Option (List ℕ))
      (gave : Connections C W → Option (In × Out) → Connections C W → Type 0) (spent : Connections C W → Type 0) (connections : Option ℕ)
      (before after : Option (List ℕ)) (ends : List (Option (DoorEnd (Connections C W)))) (result : Result (Unit {0}) Failure) →
      ((served : List (Entry Asked Dated)) × OneHistory view log tick workers old new c d served × Runs (StepsOn view log) old served new
      × HaveEnded remaining contents gave spent workers connections before after ends served) → result ≡ told_of_ends ends →
      (served : List (Entry Asked Dated)) × OneHistory view log tick workers old new c d served × Runs (StepsOn view log) old served new
      × (HasEndedAs remaining contents gave spent workers connections before after served result ⊎ (IsUnserved old new result × (d ≡ c)))
  ended_so remaining contents gave spent connections before after ends result run told =
      (run.0, run.1, run.2, inl record { ends = ends; ended = run.3; told = told })

  -- an office and a clock that are as they were have the empty history
  pub none_served : new ≡ old → d ≡ c → OneHistory view log tick workers old new c d []
  none_served same still = record {
    run = subst (λ (o : OfficeView S L). IsRun view log [] [] old o) (sym same)
        (is_run view log (λ y. y) (StepFor view log) (λ o a d y p s. s) old [] old refl);
    days = sym still;
    each = All-nil (λ (e : Entry Asked Dated). e.from < workers);
  }

-- what holds of each day that the clock gives holds of the days of the requests, where the clock keeps what that rests on
pub all_days : {C : Type 0} (tick : C → ℕ → C → Type 0) (keeps : C → Type 0) (P : ℕ → Type 0)
    → ((c : C) (day : ℕ) (d : C) → keeps c → tick c day d → keeps d × P day)
    → (c : C) (es : List (Entry Asked Dated)) (d : C) → keeps c → Gives tick c (days_of es) d → All (λ (e : Entry Asked Dated). P e.day) es
all_days tick keeps P each c [] d kept gives = All-nil (λ (e : Entry Asked Dated). P e.day)
all_days tick keeps P each c (e ∷ es) d kept gives =
    let one = each c e.day gives.0 kept gives.1 in
    All-cons (λ (e : Entry Asked Dated). P e.day) e es one.1 (all_days tick keeps P each gives.0 es d one.0 gives.2)

-- an office that was opened so, and left so, was opened and left in another way too
pub served_on : {S L : Type 0} (view : S → StoreView) (log : Ghosts L) (opens also leaves leaves_too : OfficeView S L → Type 0) (days : RunDays)
    (HasEnded : Ending) (policy : Policy) (workers : ℕ) (before after : Option (List ℕ)) (result : Result (Unit {0}) Failure)
    → ((o : OfficeView S L) → opens o → also o) → ((o : OfficeView S L) → leaves o → leaves_too o)
    → IsServed view log opens leaves days HasEnded policy workers before after result
    → IsServed view log also leaves_too days HasEnded policy workers before after result
served_on view log opens also leaves leaves_too days HasEnded policy workers before after result so left_so s = record {
  office = s.office;
  left = s.left;
  opens_so = so s.office s.opens_so;
  policy_is = s.policy_is;
  served = s.served;
  run = s.run;
  runs = s.runs;
  each = s.each;
  dated = s.dated;
  ended = s.ended;
  says = s.says;
  leaves_so = left_so s.left s.leaves_so;
}

-- ---- failures

pub at_err : {A E P : Type 0} (result : Result A E) (e : E) → result ≡ Err e → OnErr result P → P
at_err {A = A} {E = E} {P = P} result e is said = subst (λ (r : Result A E). OnErr r P) is said

-- a serving fails once the database can be used
pub once_opened : (address : List ℕ) (why : Failure) → IsOfStore why ⊎ FailsToListen address why → IsUnusable why ⊎ FailsToListen address why
once_opened address why (inl failed) = inl (inr (inr failed))
once_opened address why (inr unheard) = inr unheard
