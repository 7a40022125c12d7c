-- The office as a machine: one step for a request on a day, and whole runs.
use Rattle.std.specs.Prelude.{◌≡◌, ◌≤◌, ◌<◌, ℕ, ◌+◌, Bool, true, false, nat_lt, if◌then◌else◌, IsTrue, List, [], ◌∷◌, length, Option, None, Some, option_map}
use Rattle.std.specs.Prelude.{is_some}
use Rattle.permit_base.specs.declared.words.Edition.TheVariants.{First}
use Rattle.permit_base.specs.declared.words.Stage.{Stage}
use Rattle.permit_base.specs.declared.words.Stage.TheVariants.{New, Office}
use Rattle.permit_base.specs.declared.words.Action.{Action}
use Rattle.permit_base.specs.declared.words.RegisterKind.{RegisterKind}
use Rattle.permit_base.specs.declared.refusal.Reason.{Reason}
use Rattle.permit_base.specs.declared.refusal.Refusal.{Refusal}
use Rattle.permit_base.specs.declared.refusal.Refusal.TheVariants as refusal
use Rattle.permit_base.specs.declared.request.Command.{Command}
use Rattle.permit_base.specs.declared.request.Request.{Request}
use Rattle.permit_base.specs.declared.request.Request.TheVariants.{AddParty, AddParcel, Transfer, Declare, ReadParcel, File, ReadFile, ListFiles, Register}
use Rattle.permit_base.specs.declared.request.Request.TheVariants.{OnFile}
use Rattle.permit_base.specs.declared.request.Asked.{Asked}
use Rattle.permit_base.specs.Actions.{action_of}
use Rattle.permit_base.specs.Digests.{digest_of}
use Rattle.permit_model.specs.Search.{when}
use Rattle.permit_model.specs.History.{Deed, Founding, Upgrade, Accepted, Entry, History, edition, last_day}
use Rattle.permit_model.specs.Caller.{Party, parties, who, is_party}
use Rattle.permit_model.specs.Parcels.{Parcel, parcels, parcel_numbered}
use Rattle.permit_model.specs.Files.{CaseFile, filings, case_numbered}
use Rattle.permit_model.specs.Work.{makes_paper, paper_count}
use Rattle.permit_model.specs.Facts.{Facts, office_facts, parcel_facts, file_facts}
use Rattle.permit_model.specs.Policy.{Policy, Decision, is_allow, decision}
use Rattle.permit_model.specs.Admission.{reason_against}
use Rattle.permit_model.specs.Tables.{FileView, file_view, Paper, papers_of}
use Rattle.permit_model.specs.Listing.{listing, register_filter}

-- what is reported to a caller
pub data Reply : Type 0 where
  Done : (number : Option ℕ) → Reply
  ParcelShown : (parcel : Parcel) → Reply
  FileShown : (file : FileView) (papers : List Paper) → Reply
  Listed : (files : List FileView) → Reply
  RegisterShown : (kind : RegisterKind) (files : List FileView) → Reply
  Refused : (refusal : Refusal) → Reply

-- ---- the object of a request

-- what a request is about: the office, a parcel with its stage word, or a file
pub data Object : Type 0 where
  TheOffice : Object
  OneParcel : (id : ℕ) (word : Stage) → Object
  OneFile : (id : ℕ) → Object

-- a filing is on a parcel, whose stage word is then new
abbrev pub object_of : Request → Object
object_of (Transfer parcel to) = OneParcel parcel Office
object_of (Declare parcel) = OneParcel parcel Office
object_of (ReadParcel parcel) = OneParcel parcel Office
object_of (File parcel kind valuation description) = OneParcel parcel New
object_of (ReadFile file) = OneFile file
object_of (OnFile file command) = OneFile file
object_of (AddParty name role token) = TheOffice
object_of (AddParcel lot address owner) = TheOffice
object_of (ListFiles filter) = TheOffice
object_of (Register kind) = TheOffice

-- the facts on an object, or None where it isn't there
abbrev pub facts_on : History → ℕ → Party → Action → Object → Option Facts
facts_on h day caller action TheOffice = Some (office_facts caller.role action)
facts_on h day caller action (OneParcel id word) = option_map (λ p. parcel_facts h caller id word action) (parcel_numbered h id)
facts_on h day caller action (OneFile id) = option_map (λ file. file_facts h day caller file action) (case_numbered h id)

-- whether the object is there
abbrev pub is_there : History → Object → Bool
is_there h TheOffice = true
is_there h (OneParcel id word) = is_some (parcel_numbered h id)
is_there h (OneFile id) = is_some (case_numbered h id)

-- the facts by which a request is decided
abbrev pub facts_of : History → ℕ → Party → Request → Option Facts
facts_of h day caller request = facts_on h day caller (action_of request) (object_of request)

-- ---- what an accepted command adds

-- the number of the paper that a command makes, if it makes one
abbrev pub paper_number : Command → Option CaseFile → Option ℕ
paper_number command None = None
paper_number command (Some file) = when (makes_paper command) (paper_count file.acts + 1)

-- the number of the party, parcel, file or paper that the request makes, if it makes one
abbrev pub number_made : History → Request → Option ℕ
number_made h (AddParty name role token) = Some (length (parties h) + 1)
number_made h (AddParcel lot address owner) = Some (length (parcels h) + 1)
number_made h (File parcel kind valuation description) = Some (length (filings h) + 1)
number_made h (OnFile file command) = paper_number command (case_numbered h file)
number_made h (Transfer parcel to) = None
number_made h (Declare parcel) = None
number_made h (ReadParcel parcel) = None
number_made h (ReadFile file) = None
number_made h (ListFiles filter) = None
number_made h (Register kind) = None

-- the entry of a request of the caller on the day
abbrev pub entry_of : History → ℕ → ℕ → Request → Entry
entry_of h day caller request = record { caller = caller; day = day; deed = Accepted request; number = number_made h request }

-- ---- the step

-- a reply, and the history after it
pub record Outcome : Type 0 where
  pub reply : Reply
  pub history : History

-- a reply that leaves the history
abbrev pub unchanged : History → Reply → Outcome
unchanged h reply = record { reply = reply; history = h }

-- a refusal leaves the history
abbrev pub refused : History → Refusal → Outcome
refused h why = unchanged h (Refused why)

-- the parcel's row, or that it isn't there
abbrev pub shown_parcel : Option Parcel → Reply
shown_parcel None = Refused refusal.Record
shown_parcel (Some p) = ParcelShown p

-- the file's row and papers, or that it isn't there
abbrev pub shown_file : History → ℕ → Option CaseFile → Reply
shown_file h day None = Refused refusal.Record
shown_file h day (Some file) = FileShown (file_view day file) (papers_of h file.filing.id)

-- a command with no reason against it adds its entry and gives its number
abbrev pub outcome_by_reason : History → Entry → Option Reason → Outcome
outcome_by_reason h entry None = record { reply = Done entry.number; history = entry ∷ h }
outcome_by_reason h entry (Some reason) = refused h (refusal.NotAdmitted reason)

-- what a command gives once the caller may make it
abbrev pub outcome_of_command : History → ℕ → ℕ → Request → Outcome
outcome_of_command h day caller request = outcome_by_reason h (entry_of h day caller request) (reason_against h day caller request)

-- what a request gives once the caller may make it
abbrev pub outcome_if_allowed : Policy → History → ℕ → Party → Request → Outcome
outcome_if_allowed policy h day caller (ReadParcel id) = unchanged h (shown_parcel (parcel_numbered h id))
outcome_if_allowed policy h day caller (ReadFile id) = unchanged h (shown_file h day (case_numbered h id))
outcome_if_allowed policy h day caller (ListFiles wanted) = unchanged h (Listed (listing policy h day caller wanted))
outcome_if_allowed policy h day caller (Register kind) = unchanged h (RegisterShown kind (listing policy h day caller (register_filter kind)))
outcome_if_allowed policy h day caller (AddParty name role token) = outcome_of_command h day caller.id (AddParty name role token)
outcome_if_allowed policy h day caller (AddParcel lot address owner) = outcome_of_command h day caller.id (AddParcel lot address owner)
outcome_if_allowed policy h day caller (Transfer parcel to) = outcome_of_command h day caller.id (Transfer parcel to)
outcome_if_allowed policy h day caller (Declare parcel) = outcome_of_command h day caller.id (Declare parcel)
outcome_if_allowed policy h day caller (File parcel kind valuation description) = outcome_of_command h day caller.id (File parcel kind valuation description)
outcome_if_allowed policy h day caller (OnFile file command) = outcome_of_command h day caller.id (OnFile file command)

-- the first matching rule decides
abbrev pub outcome_by_decision : Policy → History → ℕ → Party → Request → Decision → Outcome
outcome_by_decision policy h day caller request d = if is_allow d.effect then outcome_if_allowed policy h day caller request else refused h
    (refusal.Denied d.rule)

-- the record asked for has to be there
abbrev pub outcome_by_facts : Policy → History → ℕ → Party → Request → Option Facts → Outcome
outcome_by_facts policy h day caller request None = refused h refusal.Record
outcome_by_facts policy h day caller request (Some facts) = outcome_by_decision policy h day caller request (decision policy facts)

-- a request that the policy decides as a whole
abbrev pub outcome_by_object : Policy → History → ℕ → Party → Request → Outcome
outcome_by_object policy h day caller request = outcome_by_facts policy h day caller request (facts_of h day caller request)

-- a request of a known caller on a day that isn't below the last; a listing asks for no record, and of no rule as a whole
abbrev pub outcome_by_request : Policy → History → ℕ → Party → Request → Outcome
outcome_by_request policy h day caller (ListFiles wanted) = outcome_if_allowed policy h day caller (ListFiles wanted)
outcome_by_request policy h day caller (Register kind) = outcome_if_allowed policy h day caller (Register kind)
outcome_by_request policy h day caller (AddParty name role token) = outcome_by_object policy h day caller (AddParty name role token)
outcome_by_request policy h day caller (AddParcel lot address owner) = outcome_by_object policy h day caller (AddParcel lot address owner)
outcome_by_request policy h day caller (Transfer parcel to) = outcome_by_object policy h day caller (Transfer parcel to)
outcome_by_request policy h day caller (Declare parcel) = outcome_by_object policy h day caller (Declare parcel)
outcome_by_request policy h day caller (ReadParcel parcel) = outcome_by_object policy h day caller (ReadParcel parcel)
outcome_by_request policy h day caller (File parcel kind valuation description) = outcome_by_object policy h day caller (File parcel kind valuation description)
outcome_by_request policy h day caller (ReadFile file) = outcome_by_object policy h day caller (ReadFile file)
outcome_by_request policy h day caller (OnFile file command) = outcome_by_object policy h day caller (OnFile file command)

-- the caller has to be known, and the day not below the last
abbrev pub outcome_by_caller : Policy → History → ℕ → Request → Option Party → Outcome
outcome_by_caller policy h day request None = refused h refusal.Caller
outcome_by_caller policy h day request (Some caller) =
    if nat_lt day (last_day h) then refused h refusal.Clock else outcome_by_request policy h day caller request

-- one step for the request of the party that keeps the digest
abbrev pub step_as : Policy → History → List ℕ → Request → ℕ → Outcome
step_as policy h digest request day = outcome_by_caller policy h day request (who h digest)

-- one step for a request with its caller's token
abbrev pub step : Policy → History → Asked → ℕ → Outcome
step policy h asked day = step_as policy h (digest_of asked.token) asked.request day

-- ---- runs

-- the replies to requests on their days, in order
abbrev pub replies_to : Policy → List (Asked × ℕ) → History → List Reply
replies_to policy [] h = []
replies_to policy (a ∷ rest) h = (step policy h a.0 a.1).reply ∷ replies_to policy rest (step policy h a.0 a.1).history

-- the history after them
abbrev pub history_after : Policy → List (Asked × ℕ) → History → History
history_after policy [] h = h
history_after policy (a ∷ rest) h = history_after policy rest (step policy h a.0 a.1).history

-- ---- which lists are histories

-- whether the request changes something where it is admitted
abbrev pub is_command : Request → Bool
is_command (ReadParcel id) = false
is_command (ReadFile id) = false
is_command (ListFiles wanted) = false
is_command (Register kind) = false
is_command (AddParty name role token) = true
is_command (AddParcel lot address owner) = true
is_command (Transfer parcel to) = true
is_command (Declare parcel) = true
is_command (File parcel kind valuation description) = true
is_command (OnFile file command) = true

-- a request that was accepted of the party, on a day that isn't below the last
pub record IsAccepted (before : History) (entry : Entry) (request : Request) : Type 0 where
  pub command : IsTrue (is_command request)
  pub caller_there : IsTrue (is_party before entry.caller)
  pub in_time : last_day before ≤ entry.day
  pub record_there : IsTrue (is_there before (object_of request))
  pub admitted : reason_against before entry.day entry.caller request ≡ None
  pub numbered : entry.number ≡ number_made before request

-- the upgrade: nobody's, without a number, on the day of the entry before it, and once
pub record IsUpgrade (before : History) (entry : Entry) : Type 0 where
  pub nobody : entry.caller ≡ 0
  pub same_day : entry.day ≡ last_day before
  pub numberless : entry.number ≡ None
  pub once : edition before ≡ First

-- the deed may follow the entries before it
abbrev pub MayFollow : History → Entry → Deed → Type 0
MayFollow before entry (Founding name digest) = ⊥
MayFollow before entry Upgrade = IsUpgrade before entry
MayFollow before entry (Accepted request) = IsAccepted before entry request

-- the founding makes party 1
abbrev pub IsFounding : Entry → Deed → Type 0
IsFounding entry (Founding name digest) = (0 < entry.day) × (entry.number ≡ Some 1)
IsFounding entry Upgrade = ⊥
IsFounding entry (Accepted request) = ⊥

-- the founding, and then the upgrade and accepted commands alone
abbrev pub IsHistory : History → Type 0
IsHistory [] = ⊥
IsHistory (entry ∷ []) = IsFounding entry entry.deed
IsHistory (entry ∷ last ∷ before) = MayFollow (last ∷ before) entry entry.deed × IsHistory (last ∷ before)
