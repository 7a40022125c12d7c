-- A run of a service that is an office, one step for each request.
use Rattle.std.proofs.Common.{◌≡◌, ◌≤◌, Bool, ℕ, List, [], ◌∷◌, ◌++◌, refl, sym, ◌∙◌, subst, arith, append_assoc, append-nil}
use Rattle.std.specs.Prelude.{Option, Result}
use Rattle.permit_base.specs.Digests.{digest_of}
use Rattle.permit_base.specs.declared.request.Asked.{Asked}
use Rattle.permit_model.specs.Machine.{step}
use Rattle.permit_store.specs.Frames.{StoreView, OverHistory}
use Rattle.permit_office.specs.Answers.{Answers}
use Rattle.permit_office.specs.Office.{OfficeView}
use Rattle.permit_office.specs.declared.log.Log.{Ghosts}
use Rattle.permit_office.specs.Opening.{rows_opened, Opens}
use Rattle.permit_office.specs.Runs.{Ran}
use Rattle.permit_office.specs.declared.reply.Reply.{Reply}
use Rattle.permit_office.proofs.Running.{tells, ran_more, ran_none}
use Rattle.permit_wire.specs.Serving.{Steps as StepFor, StepsOn}
use Rattle.permit_import.specs.Importing.{Imports, ImportsBy}
use Rattle.permit_import.specs.Records.{requests_of}
use Rattle.permit_import.specs.Runs.{Gave, Runs}
use Rattle.permit_import.specs.declared.fault.ImportFault.{ImportFault}
use Rattle.permit_import.specs.declared.tally.Tally.{Tally}

-- What the office made of these requests with these replies.
record IsRun {S L : Type 0} (view : S → StoreView) (log : Ghosts L) (requests : List (Asked × ℕ)) (replies : List Reply) (old new : OfficeView S L) : Type 0 where
  model : OverHistory (view old.store) (view new.store) (λ h. Ran (view new.store).holds old.policy requests replies h)
  policy : new.policy ≡ old.policy
  doubt : (view old.store).doubt ≤ (view new.store).doubt

module _ {S L : Type 0} (view : S → StoreView) (log : Ghosts L) where
  run_none : (office : OfficeView S L) → IsRun view log [] [] office office
  run_none office = record {
    model = λ sure h is held. ran_none (view office.store).holds office.policy h held;
    policy = refl;
    doubt = omega arith;
  }

  -- one step more
  run_more : (requests : List (Asked × ℕ)) (replies : List Reply) (request : Asked × ℕ) (reply : Reply) (old between new : OfficeView S L) →
      IsRun view log requests replies old between → StepFor view log request.1 request.0 reply between new →
      IsRun view log (requests ++ request ∷ []) (replies ++ reply ∷ []) old new
  run_more requests replies request reply old between new ran one = record {
    model = λ sure h is held.
        let least : (view between.store).doubt ≤ (view new.store).doubt = one.step.doubt in
        let late : (view between.store).doubt ≡ 0 = omega arith in
        ran_more (view between.store).holds (view new.store).holds old.policy requests replies h request reply is (ran.model late h is held)
        (λ now his kept. subst (λ p. Answers (view new.store).holds reply (step p now request.0 request.1) now) ran.policy
        (one.model sure now his kept))
        (λ now his kept. tells (rows_opened old.policy now (digest_of request.0.token) request.0.request request.1) reply
        (view between.store).handed (view new.store).handed
        (subst (λ p. Opens (rows_opened p now (digest_of request.0.token) request.0.request request.1) reply (view between.store).handed
        (view new.store).handed) ran.policy (one.step.opened sure now his kept)));
    policy = one.step.policy ∙ ran.policy;
    doubt = let a = ran.doubt in let b = one.step.doubt in omega arith;
  }

  -- what ran before, and then these
  run_on : (requests : List (Asked × ℕ)) (replies : List Reply) (done : List (Asked × ℕ)) (given : List Reply) (old between new : OfficeView S L) →
      IsRun view log done given old between → Runs (StepsOn view log) requests replies between new →
      IsRun view log (done ++ requests) (given ++ replies) old new
  run_on [] [] done given old between new ran run =
      subst (λ o. IsRun view log (done ++ []) (given ++ []) old o) (sym run)
      (subst (λ xs. IsRun view log xs (given ++ []) old between) (sym (append-nil done))
      (subst (λ ys. IsRun view log done ys old between) (sym (append-nil given)) ran))
  run_on [] (reply ∷ replies) done given old between new ran run = absurd run
  run_on (request ∷ requests) [] done given old between new ran run = absurd run
  run_on (request ∷ requests) (reply ∷ replies) done given old between new ran run =
      let gave : Gave (StepsOn view log) request reply between run.0 = run.1 in
      let one = subst (λ r. StepFor view log request.1 request.0 r between run.0) gave.2 gave.1.0 in
      let more = run_more done given request reply old between run.0 ran one in
      subst (λ xs. IsRun view log xs (given ++ reply ∷ replies) old new) (append_assoc done (request ∷ []) requests)
      (subst (λ ys. IsRun view log ((done ++ request ∷ []) ++ requests) ys old new) (append_assoc given (reply ∷ []) replies)
      (run_on requests replies (done ++ request ∷ []) (given ++ reply ∷ []) old run.0 new more run.2))

  is_run : (requests : List (Asked × ℕ)) (replies : List Reply) (old new : OfficeView S L) → Runs (StepsOn view log) requests replies old new →
      IsRun view log requests replies old new
  is_run requests replies old new run = run_on requests replies [] [] old old new (run_none old) run

  module _ (token : List ℕ) (day : ℕ) (asked : Bool) (left before after said saying : Option (List ℕ)) (old new : OfficeView S L)
      (result : Result Tally ImportFault) (h : ImportsBy (StepsOn view log) token day asked left before after said saying old new result) where
    its_run : IsRun view log (requests_of token day h.rows) h.replies old new
    its_run = is_run (requests_of token day h.rows) h.replies old new h.run

    -- an import by an office
    pub imports : Imports view log token day asked left before after said saying old new result
    imports = record {
      rows = h.rows;
      replies = h.replies;
      few = h.few;
      runs = h.run;
      model = its_run.model;
      ends = h.ends;
      causes = h.causes;
    }

    pub policy : new.policy ≡ old.policy
    policy = its_run.policy

    pub doubt : (view old.store).doubt ≤ (view new.store).doubt
    doubt = its_run.doubt
