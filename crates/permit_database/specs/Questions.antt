-- What an office makes of what it is asked, and how the program reports it.
use Rattle.std.specs.Prelude.{◌≡◌, ℕ, Bool, List, Option, Result, Ok, Err, string_bytes}
use Rattle.permit_base.specs.Digests.{digest_of}
use Rattle.permit_base.specs.declared.request.Filter.{Filter}
use Rattle.permit_base.specs.declared.request.Request.TheVariants as request
use Rattle.permit_base.specs.declared.words.RegisterKind.{RegisterKind}
use Rattle.permit_model.specs.Machine.{step_as}
use Rattle.permit_model.specs.Policy.{Policy}
use Rattle.permit_store.specs.Frames.{StoreView, OverHistory}
use Rattle.permit_office.specs.Office.{OfficeView}
use Rattle.permit_office.specs.declared.log.Log.{Ghosts}
use Rattle.permit_office.specs.Opening.{rows_opened}
use Rattle.permit_office.specs.Showing.{IsShowing, OpensAt}
use Rattle.permit_office.specs.declared.reply.Reply.{Reply}
use Rattle.permit_office.specs.declared.showing.RowsEnd.{RowsEnd}
use Rattle.permit_wire.specs.Serving.{Moves, Steps}
use Rattle.permit_import.specs.Importing.{Imports}
use Rattle.permit_import.specs.declared.fault.ImportFault.{ImportFault}
use Rattle.permit_import.specs.declared.refused.RefusalWord.TheVariants.{Store}
use Rattle.permit_import.specs.declared.tally.Tally.{Tally}
use Rattle.permit_subcommands.specs.Answering.{Asks}
use Rattle.permit_subcommands.specs.Failures.{plain, IsFailureOfImport}
use Rattle.permit_subcommands.specs.Listings.{listed, Tells, Writes, WritesSome}
use Rattle.permit_subcommands.specs.declared.failure.Failure.{Failure}
use Rattle.permit_database.specs.declared.outcome.Outcome.{Outcome}
use Rattle.permit_database.specs.declared.outcome.Outcome.TheVariants as outcome
use Rattle.permit_database.specs.declared.question.Question.{Question}
use Rattle.permit_database.specs.declared.question.Question.TheVariants as question

-- what came of it is reported so; a failure stays as it is
abbrev pub told_as : {A : Type 0} → (A → Outcome) → Result A Failure → Result Outcome Failure
told_as did (Ok came) = Ok (did came)
told_as did (Err why) = Err why

-- how an import ended: with its counts, or with why it stopped
abbrev pub TellsImport : List ℕ → Result Tally ImportFault → Result Outcome Failure → Type 0
TellsImport path (Ok tally) result = result ≡ Ok (outcome.Imported tally)
TellsImport path (Err fault) result = (why : Failure) × IsFailureOfImport path fault why × (result ≡ Err why)

module _ {S L : Type 0} (view : S → StoreView) (log : Ghosts L) where
  -- The answer is the one to what the bytes ask. There is none for want of memory alone, and then nothing was served.
  abbrev pub AnswersWith : ℕ → List ℕ → OfficeView S L → OfficeView S L → Result Outcome Failure → Type 0
  AnswersWith day request old new (Ok (outcome.Answered answer)) = Asks view log day old new request answer
  AnswersWith day request old new (Ok _) = ⊥
  AnswersWith day request old new (Err why) = (why ≡ plain Store) × (new ≡ old)

  -- a request is served, by one step of the office at most
  pub record ServesRequest (day : ℕ) (request : List ℕ) (old new : OfficeView S L) (result : Result Outcome Failure) : Type 0 where
    pub answer : AnswersWith day request old new result
    pub moves : Moves view log day old new

  -- files are listed by one step of the office, whose reply is reported
  pub record ListsFiles (day : ℕ) (token : List ℕ) (filter : Filter) (old new : OfficeView S L) (result : Result Outcome Failure) : Type 0 where
    pub reply : Reply
    pub step : Steps view log day (record { token = token; request = request.ListFiles filter }) reply old new
    pub told : result ≡ told_as outcome.Listed (listed reply)

  -- A register is written as `write_register` writes it, and nothing else is reported of it than that, or why it isn't whole. Nothing is
  -- entered into the log.
  pub record WritesRegister (day : ℕ) (token : List ℕ) (kind : RegisterKind) (before after : Option (List ℕ)) (old new : OfficeView S L)
      (result : Result Outcome Failure) : Type 0 where
    pub written : Result (Unit {0}) Failure
    pub told : result ≡ told_as (λ _. outcome.Registered) written
    pub text : OverHistory (view old.store) (view new.store)
        (λ h. Writes day before after (step_as old.policy h (digest_of token) (request.Register kind) day).reply written)
    pub some : WritesSome kind day before after written
    pub end : RowsEnd
    pub ends : Tells end written
    pub showing : IsShowing (view old.store) (view new.store) end
    pub opened : OverHistory (view old.store) (view new.store) (λ h. OpensAt (rows_opened old.policy h (digest_of token) (request.Register kind) day) end
        (view old.store).handed (view new.store).handed)
    pub log_is : new.log ≡ old.log

  -- the records that are left in the reader of a file are imported
  pub record ImportsRecords (day : ℕ) (why : Bool) (token path : List ℕ) (records before after said saying : Option (List ℕ))
      (old new : OfficeView S L) (result : Result Outcome Failure) : Type 0 where
    pub ended : Result Tally ImportFault
    pub told : TellsImport path ended result
    pub imports : Imports view log token day why records before after said saying old new ended

  -- What the office makes of the question, what is reported of it, and what is written on the way: a register, or the lines of
  -- an import, and else nothing. The first two are the output before and after, the next two the errors, which get why records are
  -- refused.
  abbrev pub IsAnswered : {R : Type 0} → (R → Option (List ℕ)) → ℕ → Question R → OfficeView S L → OfficeView S L
      → (before after said saying : Option (List ℕ)) → Result Outcome Failure → Type 0
  IsAnswered remaining day (question.Serve request) old new before after said saying result =
      ServesRequest day (string_bytes request) old new result × (after ≡ before) × (saying ≡ said)
  IsAnswered remaining day (question.List token filter) old new before after said saying result =
      ListsFiles day token filter old new result × (after ≡ before) × (saying ≡ said)
  IsAnswered remaining day (question.Register token kind) old new before after said saying result =
      WritesRegister day token kind before after old new result × (saying ≡ said)
  IsAnswered remaining day (question.Import token path records why) old new before after said saying result =
      ImportsRecords day why token path.now (remaining records) before after said saying old new result

  -- An office that was opened so, under the policy, is asked, and left so.
  pub record IsAsked {R : Type 0} (opens leaves : OfficeView S L → Type 0) (remaining : R → Option (List ℕ)) (policy : Policy)
      (day : ℕ) (asked : Question R) (before after said saying : Option (List ℕ)) (result : Result Outcome Failure) : Type 0 where
    pub office : OfficeView S L
    pub left : OfficeView S L
    pub opens_so : opens office
    pub policy_is : office.policy ≡ policy
    pub answered : IsAnswered remaining day asked office left before after said saying result
    pub leaves_so : leaves left
