-- What is reported of what an office makes of a question, and what is written on the way.
use Rattle.std.proofs.Common.{◌≡◌, ◌≢◌, ◌⊎◌, inl, inr, ℕ, zero, suc, Bool, true, false, List, [], ◌++◌, Option, Result, Ok, Err, arith, length-append, refl, subst, sym}
use Rattle.std.specs.Prelude.{IfErr, IfOk, codes, decimal, string_bytes}
use Rattle.std.specs.Io.KnownBytes.{Appends}
use Rattle.std.proofs.KnownBytes.{Appends-nil}
use Rattle.permit_base.specs.declared.refusal.Refusal.TheVariants as refusal
use Rattle.permit_base.specs.declared.words.RegisterKind.{RegisterKind}
use Rattle.permit_answer.specs.declared.answer.Answer.TheVariants as answer
use Rattle.permit_import.specs.Importing.{Imports, TellsCauses}
use Rattle.permit_import.specs.declared.fault.ImportFault.{ImportFault}
use Rattle.permit_import.specs.declared.tally.Tally.{Tally}
use Rattle.permit_office.specs.Office.{OfficeView}
use Rattle.permit_office.specs.declared.log.Log.{Ghosts}
use Rattle.permit_office.specs.declared.reply.Listing.{Listing}
use Rattle.permit_office.specs.declared.reply.Reply.{Reply}
use Rattle.permit_office.specs.declared.reply.Reply.TheVariants as reply
use Rattle.permit_report.specs.Outgoing.{WroteFront}
use Rattle.permit_store.specs.Frames.{StoreView}
use Rattle.permit_subcommands.specs.Failures.{IsFailureOfImport}
use Rattle.permit_subcommands.specs.Listings.{listed, WritesSome}
use Rattle.permit_subcommands.specs.Printing.{Prints}
use Rattle.permit_subcommands.specs.declared.failure.Failure.{Failure}
use Rattle.permit_database.specs.Doing.{IsAnswerTo, IsImported, IsListing, IsRegistered, IsToldOf, SaysCauses, SaysOf, SaysRedone, redone_line}
use Rattle.permit_database.specs.Failing.{FailsOf, IsRefusal, StopsImport}
use Rattle.permit_database.specs.Questions.{AnswersWith, IsAnswered, TellsImport, told_as}
use Rattle.permit_database.specs.declared.outcome.Outcome.{Outcome}
use Rattle.permit_database.specs.declared.outcome.Outcome.TheVariants as outcome
use Rattle.permit_database.specs.declared.question.Question.{Question}
use Rattle.permit_database.specs.declared.question.Question.TheVariants as question

listing_told : (done : Outcome) (listed : Result Listing Failure) → Ok done ≡ told_as outcome.Listed listed → IsListing done
listing_told done (Ok listing) told = let is : outcome.Listed listing ≡ done = cc in subst IsListing is tt
listing_told done (Err why) told = cc

list_fails : (why : Failure) (reply : Reply) → Err why ≡ told_as outcome.Listed (listed reply) → IsRefusal why
list_fails why (reply.Listed listing) told = cc
list_fails why (reply.Refused refusal) told = (refusal, cc)
list_fails why (reply.Done number) told = (refusal.Store, cc)
list_fails why (reply.Parcel parcel) told = (refusal.Store, cc)
list_fails why (reply.File file papers) told = (refusal.Store, cc)
list_fails why (reply.Register kind listing) told = (refusal.Store, cc)

register_told : (kind : RegisterKind) (day : ℕ) (before after : Option (List ℕ)) (done : Outcome) (written : Result (Unit {0}) Failure) →
    Ok done ≡ told_as (λ _. outcome.Registered) written → WritesSome kind day before after written → IsRegistered kind day before after done
register_told kind day before after done (Ok _) told some = ((cc), some)
register_told kind day before after done (Err why) told some = cc

register_fails : (kind : RegisterKind) (day : ℕ) (before after : Option (List ℕ)) (why : Failure) (written : Result (Unit {0}) Failure) →
    Err why ≡ told_as (λ _. outcome.Registered) written → WritesSome kind day before after written → WritesSome kind day before after (Err why)
register_fails kind day before after why (Ok done) told some = cc
register_fails kind day before after why (Err other) told some =
    let same : other ≡ why = cc in subst (λ (f : Failure). WritesSome kind day before after (Err f)) same some

module _ {S L : Type 0} (view : S → StoreView) (log : Ghosts L) where
  answer_told : (day : ℕ) (request : List ℕ) (old new : OfficeView S L) (done : Outcome) → AnswersWith view log day request old new (Ok done)
      → IsAnswerTo day request done
  answer_told day request old new (outcome.Answered (answer.Replied reply action on)) h = (h.0, h.1, h.3, h.4)
  answer_told day request old new (outcome.Answered (answer.Fault why)) h = h.0
  answer_told day request old new _ h = absurd h

  import_told : (token : List ℕ) (day : ℕ) (why : Bool) (path : List ℕ) (left before after said saying : Option (List ℕ)) (old new : OfficeView S L)
      (done : Outcome) (ended : Result Tally ImportFault) → TellsImport path ended (Ok done)
      → Imports view log token day why left before after said saying old new ended → IsImported before after done
  import_told token day why path left before after said saying old new done (Ok tally) told imports =
      let is : outcome.Imported tally ≡ done = cc in
      subst (IsImported before after) is (left, imports.rows, imports.replies, imports.ends)
  import_told token day why path left before after said saying old new done (Err fault) told imports = let is : Ok done ≡ Err told.0 = told.2 in cc

  import_fails : (token : List ℕ) (day : ℕ) (asked : Bool) (path : List ℕ) (left before after said saying : Option (List ℕ)) (old new : OfficeView S L)
      (why : Failure) (ended : Result Tally ImportFault) → TellsImport path ended (Err why)
      → Imports view log token day asked left before after said saying old new ended → StopsImport path before after why
  import_fails token day asked path left before after said saying old new why (Ok tally) told imports = cc
  import_fails token day asked path left before after said saying old new why (Err fault) told imports =
      let same : told.0 ≡ why = cc in
      (fault, subst (IsFailureOfImport path fault) same told.1, left, imports.rows, imports.replies, imports.ends)

  module _ {R : Type 0} (remaining : R → Option (List ℕ)) (day : ℕ) where
    -- what is reported of it where it succeeds
    pub told_of : (asked : Question R) (old new : OfficeView S L) (before after said saying : Option (List ℕ)) (result : Result Outcome Failure) →
        IsAnswered view log remaining day asked old new before after said saying result → IfOk result (IsToldOf day asked before after)
    told_of (question.Serve request) old new before after said saying (Ok done) h =
        (answer_told day (string_bytes request) old new done h.0.answer, h.1)
    told_of (question.List token filter) old new before after said saying (Ok done) h = (listing_told done _ h.0.told, h.1)
    told_of (question.Register token kind) old new before after said saying (Ok done) h =
        register_told kind day before after done h.0.written h.0.told h.0.some
    told_of (question.Import token path records why) old new before after said saying (Ok done) h =
        import_told token day why path.now (remaining records) before after said saying old new done h.ended h.told h.imports
    told_of asked old new before after said saying (Err why) h = tt

    -- and where it fails
    pub fails_of : (asked : Question R) (old new : OfficeView S L) (before after said saying : Option (List ℕ)) (result : Result Outcome Failure) →
        IsAnswered view log remaining day asked old new before after said saying result → IfErr result (FailsOf day asked before after)
    fails_of asked old new before after said saying (Ok done) h = tt
    fails_of (question.Serve request) old new before after said saying (Err why) h = (h.0.answer.0, h.1)
    fails_of (question.List token filter) old new before after said saying (Err why) h = (list_fails why h.0.reply h.0.told, h.1)
    fails_of (question.Register token kind) old new before after said saying (Err why) h =
        register_fails kind day before after why h.0.written h.0.told h.0.some
    fails_of (question.Import token path records asked) old new before after said saying (Err why) h =
        import_fails token day asked path.now (remaining records) before after said saying old new why h.ended h.told h.imports

    -- why records are refused is said of an import alone
    pub says_of : (asked : Question R) (old new : OfficeView S L) (before after said saying : Option (List ℕ)) (result : Result Outcome Failure) →
        IsAnswered view log remaining day asked old new before after said saying result → SaysOf asked said saying
    says_of (question.Serve request) old new before after said saying result h = h.2
    says_of (question.List token filter) old new before after said saying result h = h.2
    says_of (question.Register token kind) old new before after said saying result h = h.1
    says_of (question.Import token path records why) old new before after said saying result h =
        (h.imports.rows, h.imports.replies, h.imports.causes)

-- where nothing is asked of an office, nothing is said
unsaid : (asked : Bool) (held : Option (List ℕ)) → TellsCauses asked held held []
unsaid true held = inl (Appends-nil held)
unsaid false held = refl

pub says_nothing : (asked : Bool) (held : Option (List ℕ)) → SaysCauses asked held held
says_nothing asked held = ([], [], unsaid asked held)

pub says_nothing_of : {R : Type 0} (asked : Question R) (held : Option (List ℕ)) → SaysOf asked held held
says_nothing_of (question.Serve request) held = refl
says_nothing_of (question.List token filter) held = refl
says_nothing_of (question.Register token kind) held = refl
says_nothing_of (question.Import token path records why) held = says_nothing why held

-- ---- how many lines of a history were redone

pub says_none : (redone : ℕ) (held : Option (List ℕ)) → redone ≡ 0 → SaysRedone redone held held
says_none redone held none = subst (λ (n : ℕ). SaysRedone n held held) (sym none) refl

says_some : (redone : ℕ) (before after : Option (List ℕ)) → redone ≢ 0 → Appends before after (redone_line redone) ⊎ WroteFront before after (redone_line redone)
    → SaysRedone redone before after
says_some zero before after some said = absurd (some refl)
says_some (suc more) before after some said = said

-- without memory for the line none of it is printed
pub says_unprinted : (redone : ℕ) (held : Option (List ℕ)) → redone ≢ 0 → SaysRedone redone held held
says_unprinted redone held some = says_some redone held held some (inr record {
  count = 0;
  within = omega (arith, length-append (codes "history: redid ") (decimal redone ++ codes " commands\n"));
  wrote = Appends-nil held;
})

pub says_printed : (redone : ℕ) (before after : Option (List ℕ)) (result : Result (Unit {0}) Failure) → redone ≢ 0 → (line : List ℕ)
    → line ≡ redone_line redone → Prints line before after result → SaysRedone redone before after
says_printed redone before after (Ok done) some line is printed = says_some redone before after some (inl (subst (Appends before after) is printed))
says_printed redone before after (Err why) some line is printed = says_some redone before after some (inr (subst (WroteFront before after) is printed.1))
