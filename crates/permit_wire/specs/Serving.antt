-- What serving one request of a connection does.
use Rattle.std.specs.Prelude.{◌≡◌, ◌⊎◌, ℕ, Bool, true, false, List, Option, Some, Ok}
use Rattle.permit_base.specs.Actions.{action_of}
use Rattle.permit_base.specs.Digests.{digest_of}
use Rattle.permit_base.specs.declared.request.Asked.{Asked}
use Rattle.permit_model.specs.Machine.{step as machine_step}
use Rattle.permit_store.specs.Frames.{StoreView, OverHistory}
use Rattle.permit_office.specs.Answers.{Answers, reply_of}
use Rattle.permit_office.specs.Frames.{IsStep}
use Rattle.permit_office.specs.Office.{OfficeView}
use Rattle.permit_office.specs.declared.log.Log.{Ghosts}
use Rattle.permit_office.specs.declared.reply.Reply.{Reply}
use Rattle.permit_http.specs.Stream.{InboxData}
use Rattle.permit_http.specs.declared.fault.Fault.{Fault}
use Rattle.permit_answer.specs.AnswerText.{AnswerData, Replied, Faulted}
use Rattle.permit_answer.specs.Outgoing.{WroteAnswer, WroteFrontOfAnswer}
use Rattle.permit_wire.specs.Reading.{AskedFrom, Nothing, RequestRead, FaultRead, is_kept}
use Rattle.permit_wire.specs.declared.service.Dated.{Dated}
use Rattle.permit_wire.specs.declared.serve.Served.{Served}
use Rattle.permit_wire.specs.declared.serve.Served.TheVariants.{Kept, Closed, Ended, ReadFailed, WriteFailed}

-- what went out for an answer: its whole text, which keeps or closes the connection, or a prefix of it
abbrev pub GoesOutAs : AnswerData → Bool → Option (List ℕ) → Option (List ℕ) → Served → Type 0
GoesOutAs answer close before after Kept = WroteAnswer answer close before after false
GoesOutAs answer close before after Closed = WroteAnswer answer close before after true
GoesOutAs answer close before after WriteFailed = WroteFrontOfAnswer answer close before after
GoesOutAs answer close before after Ended = ⊥
GoesOutAs answer close before after ReadFailed = ⊥

-- the connection stays open only where an answer that keeps it went out whole
abbrev pub is_shut : Served → Bool
is_shut Kept = false
is_shut _ = true

-- The office made one step for the request, and the reply is the machine's, or the store's refusal where a call or the log failed.
-- The step says what became of the log.
pub record Steps {S L : Type 0} (view : S → StoreView) (log : Ghosts L) (day : ℕ) (asked : Asked) (reply : Reply) (office office' : OfficeView S L)
    : Type 0 where
  pub step : IsStep view log (digest_of asked.token) asked.request day office office' reply
  pub model : OverHistory (view office.store) (view office'.store) (λ h. Answers (view office'.store).holds reply (machine_step office.policy h asked day) h)

-- the office made that step on the day, which its reply has
abbrev pub StepsOn : {S L : Type 0} → (S → StoreView) → Ghosts L → OfficeView S L → Asked → ℕ → Dated → OfficeView S L → Type 0
StepsOn view log office asked day dated office' = Steps view log day asked dated.reply office office' × (dated.day ≡ day)

-- a request was read, the service served it, and its reply's text went out
pub record ServesRequest {T : Type 0} (serves : T → Asked → Dated → T → Type 0) (service service' : T) (bytes : List ℕ) (old new : InboxData)
    (left before after : Option (List ℕ)) (served : Served) : Type 0 where
  pub asked : Asked
  pub dated : Dated
  pub between : InboxData
  pub comes_in : RequestRead bytes old between left (Ok (Some asked))
  pub done : serves service asked dated service'
  pub goes_out : GoesOutAs (Replied (reply_of dated.reply) (action_of asked.request) dated.day) between.closed before after served
  pub shut : new ≡ record between { closed = is_shut served }

-- a fault was read, and its text went out; one that isn't kept closes the connection
pub record ServesFault (bytes : List ℕ) (old new : InboxData) (left before after : Option (List ℕ)) (served : Served) : Type 0 where
  pub fault : Fault
  pub between : InboxData
  pub comes_in : FaultRead bytes old between left fault
  pub closes : is_kept fault ≡ false → between.closed ≡ true
  pub goes_out : GoesOutAs (Faulted fault) between.closed before after served
  pub shut : new ≡ record between { closed = is_shut served }

-- a request was served, or a fault, which leaves the service
abbrev pub ServesEither : {T : Type 0} → (T → Asked → Dated → T → Type 0) → T → T → List ℕ → InboxData → InboxData
    → Option (List ℕ) → Option (List ℕ) → Option (List ℕ) → Served → Type 0
ServesEither serves service service' bytes old new left before after served =
    ServesRequest serves service service' bytes old new left before after served
    ⊎ (ServesFault bytes old new left before after served × (service' ≡ service))

-- what a service served of a stream of these bytes
abbrev pub ServesBy : {T : Type 0} → (T → Asked → Dated → T → Type 0) → T → T → List ℕ → InboxData → InboxData
    → Option (List ℕ) → Option (List ℕ) → Option (List ℕ) → Served → Type 0
ServesBy serves service service' bytes old new left before after Ended = AskedFrom old.closed bytes Nothing
ServesBy serves service service' bytes old new left before after ReadFailed = Unit {0}
ServesBy serves service service' bytes old new left before after served =
    ServesEither serves service service' bytes old new left before after served

-- what the office served of it
abbrev pub Serves : {S L : Type 0} → (S → StoreView) → Ghosts L → ℕ → OfficeView S L → OfficeView S L → List ℕ → InboxData → InboxData
    → Option (List ℕ) → Option (List ℕ) → Option (List ℕ) → Served → Type 0
Serves view log day office office' bytes old new left before after served =
    ServesBy (λ o asked reply o'. StepsOn view log o asked day reply o') office office' bytes old new left before after served

-- whatever the reader gave, the service was asked once, or is as it was
abbrev pub AsksOnce : {T : Type 0} → (T → Asked → Dated → T → Type 0) → T → T → Bool → Type 0
AsksOnce serves service service' true = (asked : Asked) × (dated : Dated) × serves service asked dated service'
AsksOnce serves service service' false = service' ≡ service

-- whatever the reader gave, the office is as it was, or made one step
abbrev pub Moves : {S L : Type 0} → (S → StoreView) → Ghosts L → ℕ → OfficeView S L → OfficeView S L → Type 0
Moves view log day office office' = (office' ≡ office) ⊎ ((asked : Asked) × (reply : Reply) × Steps view log day asked reply office office')

-- nothing was answered
abbrev pub is_silent : Served → Bool
is_silent Ended = true
is_silent ReadFailed = true
is_silent _ = false
