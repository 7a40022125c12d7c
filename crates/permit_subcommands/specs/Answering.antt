-- One request on a connection of its own, and what is printed of its answer.
use Rattle.std.specs.Prelude.{◌≡◌, ◌⊎◌, ℕ, IsTrue, List, [], ◌∷◌, ◌++◌, Option, Some, None, Result, Ok, Err}
use Rattle.std.specs.Io.KnownBytes.{Appends}
use Rattle.permit_base.specs.Actions.{action_of}
use Rattle.permit_base.specs.declared.request.Asked.{Asked}
use Rattle.permit_model.specs.Machine.{Refused as Refuses}
use Rattle.permit_store.specs.Frames.{StoreView}
use Rattle.permit_office.specs.Office.{OfficeView}
use Rattle.permit_office.specs.declared.log.Log.{Ghosts}
use Rattle.permit_report.specs.Outgoing.{WroteFront}
use Rattle.permit_http.specs.Stream.{InboxData, fresh}
use Rattle.permit_http.specs.declared.error.WireError.{WireError}
use Rattle.permit_http.specs.declared.error.WireError.TheVariants as error
use Rattle.permit_http.specs.declared.fault.Fault.{Fault}
use Rattle.permit_http.specs.declared.fault.Fault.TheVariants as fault
use Rattle.permit_answer.specs.AnswerText.{AnswerData, Replied, Faulted, body_text}
use Rattle.permit_answer.specs.Outgoing.{is_read_out}
use Rattle.permit_answer.specs.declared.answer.Answer.{Answer}
use Rattle.permit_answer.specs.declared.answer.Answer.TheVariants as answer
use Rattle.permit_wire.specs.Reading.{RequestRead}
use Rattle.permit_wire.specs.Serving.{Steps}
use Rattle.permit_import.specs.Refusals.{refused_by}
use Rattle.permit_import.specs.declared.refused.Refused.{Refused}
use Rattle.permit_import.specs.declared.refused.Refused.TheVariants.{Plain}
use Rattle.permit_import.specs.declared.refused.RefusalWord.{RefusalWord}
use Rattle.permit_import.specs.declared.refused.RefusalWord.TheVariants.{Syntax, Caller, Store, Route, Large}
use Rattle.permit_subcommands.specs.declared.failure.Failure.{Failure}
use Rattle.permit_subcommands.specs.declared.failure.Failure.TheVariants as failure

-- on a connection of their own these bytes are read as this
abbrev pub AreReadAs : List ℕ → Result (Option Asked) WireError → Type 0
AreReadAs request read = (inbox : InboxData) × (left : Option (List ℕ)) × RequestRead request fresh inbox left read

-- The answer is the reply of the one step that the office made for the request which the bytes ask, or their fault, which
-- leaves the office.
abbrev pub Asks : {S L : Type 0} → (S → StoreView) → Ghosts L → ℕ → OfficeView S L → OfficeView S L → List ℕ → Answer → Type 0
Asks view log day old new request (answer.Replied reply action on) =
    (asked : Asked) × AreReadAs request (Ok (Some asked)) × Steps view log day asked reply old new × (action ≡ action_of asked.request) × (on ≡ day)
Asks view log day old new request (answer.Fault why) = AreReadAs request (Err (error.Fault why)) × (new ≡ old)

-- the word of the refusal for a fault
abbrev pub word_of : Fault → RefusalWord
word_of fault.Head = Syntax
word_of fault.Version = Syntax
word_of fault.Length = Syntax
word_of fault.Large = Large
word_of fault.Route = Route
word_of fault.Caller = Caller
word_of fault.Body = Syntax
word_of fault.Memory = Store

-- the refusal that an answer is
abbrev pub refusal_of : AnswerData → Option Refused
refusal_of (Replied (Refuses why) action day) = Some (refused_by why)
refusal_of (Replied reply action day) = None
refusal_of (Faulted why) = Some (Plain (word_of why))

-- the answer that is shown for one: itself, or where a read finds no memory for its text the store's refusal
abbrev pub IsShownAs : AnswerData → AnswerData → Type 0
IsShownAs given shown = (shown ≡ given) ⊎ (IsTrue (is_read_out given) × (shown ≡ Faulted fault.Memory))

-- a body and a line end are printed, and then the refusal, where there is one, is the failure; or the output failed, and a
-- prefix of them is printed
abbrev pub Tells : List ℕ → Option Refused → Option (List ℕ) → Option (List ℕ) → Result (Unit {0}) Failure → Type 0
Tells body refusal before after (Ok done) = (refusal ≡ None) × Appends before after (body ++ 10 ∷ [])
Tells body refusal before after (Err (failure.Refused why)) = (refusal ≡ Some why) × Appends before after (body ++ 10 ∷ [])
Tells body refusal before after (Err failure.Output) = WroteFront before after (body ++ 10 ∷ [])
Tells body refusal before after (Err why) = ⊥

-- what is printed of an answer, and how it ended
abbrev pub Shows : AnswerData → Option (List ℕ) → Option (List ℕ) → Result (Unit {0}) Failure → Type 0
Shows given before after result = (shown : AnswerData) × IsShownAs given shown × Tells (body_text shown) (refusal_of shown) before after result
