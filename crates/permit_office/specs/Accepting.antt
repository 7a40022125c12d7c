-- A command as a history records it, and what comes of it after a history, whatever a policy says.
use Rattle.std.specs.Prelude.{◌≡◌, ℕ, Bool, nat_lt, if◌then◌else◌, List, [], ⊤}
use Rattle.permit_base.specs.declared.refusal.Refusal.TheVariants as refusal
use Rattle.permit_base.specs.declared.request.Request.{Request}
use Rattle.permit_base.specs.declared.request.Request.TheVariants as request
use Rattle.permit_base.specs.Digests.{digest_of}
use Rattle.permit_model.specs.History.{History, last_day}
use Rattle.permit_model.specs.Caller.{is_party}
use Rattle.permit_model.specs.Machine.{Outcome, refused, object_of, is_there, outcome_of_command}
use Rattle.permit_office.specs.declared.accepting.Recorded.{Recorded}
use Rattle.permit_office.specs.declared.accepting.Recorded.TheVariants as recorded
use Rattle.permit_office.specs.declared.reply.Reply.{Reply as Given}
use Rattle.permit_office.specs.declared.reply.Reply.TheVariants as given
use Rattle.permit_office.specs.Reach.{Reach, reach_of}

-- ---- the request

-- the request that is recorded, where a new party has the token
abbrev pub request_of : List ℕ → Recorded → Request
request_of token (recorded.NewParty name role digest) = request.AddParty name.now role token
request_of token (recorded.NewParcel lot address owner) = request.AddParcel lot.now address.now owner
request_of token (recorded.Transfer parcel to) = request.Transfer parcel to
request_of token (recorded.Declare parcel) = request.Declare parcel
request_of token (recorded.File parcel kind valuation description) = request.File parcel kind valuation description.now
request_of token (recorded.OnFile file command) = request.OnFile file command.now

-- a new party may have the token: it is one of the digest
abbrev pub MayHave : List ℕ → Recorded → Type 0
MayHave token (recorded.NewParty name role digest) = digest.now ≡ digest_of token
MayHave token (recorded.NewParcel lot address owner) = ⊤
MayHave token (recorded.Transfer parcel to) = ⊤
MayHave token (recorded.Declare parcel) = ⊤
MayHave token (recorded.File parcel kind valuation description) = ⊤
MayHave token (recorded.OnFile file command) = ⊤

-- how far it reaches, which a token has no part in
abbrev pub reach_recorded : Recorded → Reach
reach_recorded act = reach_of (request_of [] act)

-- ---- what comes of it

-- the record has to be there
abbrev pub outcome_if_there : History → ℕ → ℕ → Request → Bool → Outcome
outcome_if_there h day caller asked there = if there then outcome_of_command h day caller asked else refused h refusal.Record

abbrev pub outcome_on_record : History → ℕ → ℕ → Request → Outcome
outcome_on_record h day caller asked = outcome_if_there h day caller asked (is_there h (object_of asked))

-- the day may not be below the last
abbrev pub outcome_in_time : History → ℕ → ℕ → Request → Bool → Outcome
outcome_in_time h day caller asked late = if late then refused h refusal.Clock else outcome_on_record h day caller asked

-- the caller has to be a party
abbrev pub outcome_of_party : History → ℕ → ℕ → Request → Bool → Outcome
outcome_of_party h day caller asked known = if known then outcome_in_time h day caller asked (nat_lt day (last_day h)) else refused h refusal.Caller

-- what comes of a command of the party on the day, whatever a policy says
abbrev pub outcome_unjudged : History → ℕ → ℕ → Request → Outcome
outcome_unjudged h day caller asked = outcome_of_party h day caller asked (is_party h caller)

-- ---- how it is answered

-- a command is done or refused: no record is shown
abbrev pub AnswersCommand : Given → Type 0
AnswersCommand (given.Done number) = ⊤
AnswersCommand (given.Refused why) = ⊤
AnswersCommand reply = ⊥
