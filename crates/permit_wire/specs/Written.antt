-- What the answers of a connection write.
use Rattle.std.specs.Prelude.{◌≡◌, ◌⊎◌, ℕ, Bool, List, [], ◌∷◌, Option}
use Rattle.permit_base.specs.Actions.{action_of}
use Rattle.permit_base.specs.declared.request.Asked.{Asked}
use Rattle.permit_office.specs.Answers.{reply_of}
use Rattle.permit_http.specs.declared.fault.Fault.{Fault}
use Rattle.permit_answer.specs.AnswerText.{AnswerData, Replied, Faulted}
use Rattle.permit_answer.specs.Outgoing.{WroteAnswer, WroteFrontOfAnswer}
use Rattle.permit_wire.specs.Conversation.{Exchanges, none}
use Rattle.permit_wire.specs.declared.service.Dated.{Dated}
use Rattle.permit_wire.specs.declared.serve.Served.{Served}
use Rattle.permit_wire.specs.declared.serve.Served.TheVariants.{WriteFailed}

-- what is answered: a request, by its reply, or a fault
pub data Answered : Type 0 where
  ByReply : (asked : Asked) (reply : Dated) → Answered
  OfFault : (fault : Fault) → Answered

-- the answer
abbrev pub answer_of : Answered → AnswerData
answer_of (ByReply asked reply) = Replied (reply_of reply.reply) (action_of asked.request) reply.day
answer_of (OfFault fault) = Faulted fault

-- the requests among what is answered, with their replies
abbrev pub exchanges_in : List Answered → Exchanges
exchanges_in [] = none
exchanges_in (ByReply asked reply ∷ more) = record { put = asked ∷ (exchanges_in more).put; got = reply ∷ (exchanges_in more).got }
exchanges_in (OfFault fault ∷ more) = exchanges_in more

-- the texts of the answers went out whole, one after the other; of the last a prefix may, where the writer failed
abbrev pub Writes : Served → Option (List ℕ) → List Answered → Option (List ℕ) → Type 0
Writes ends before [] after = after ≡ before
Writes ends before (first ∷ more) after = (close : Bool) × (
    ((more ≡ []) × (ends ≡ WriteFailed) × WroteFrontOfAnswer (answer_of first) close before after)
    ⊎ ((closes : Bool) × (between : Option (List ℕ)) × WroteAnswer (answer_of first) close before between closes × Writes ends between more after))

-- requests and faults were answered, in one order, and what was written is the texts of these answers
pub record WritesWhatIsAnswered (before after : Option (List ℕ)) (exchanges : Exchanges) (ends : Served) : Type 0 where
  pub answered : List Answered
  pub exchanged : exchanges ≡ exchanges_in answered
  pub written : Writes ends before answered after
