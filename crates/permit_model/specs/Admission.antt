-- The reason against a command: its tests in the order of the reasons, of which the first that holds is answered.
use Rattle.std.specs.Prelude.{ℕ, Bool, false, ◌||◌, not, ◌==◌, ◌+◌, nat_lt, nat_le, if◌then◌else◌, List, [], ◌∷◌, length, Option, None, Some, unwrap_or}
use Rattle.std.specs.Prelude.{is_some, is_none, bytes_eq}
use Rattle.std.specs.List.{list_any}
use Rattle.permit_base.specs.declared.words.Role.{Role}
use Rattle.permit_base.specs.declared.words.Role.TheVariants.{Reviewer, Inspector}
use Rattle.permit_base.specs.declared.words.Step.{Step}
use Rattle.permit_base.specs.declared.words.Stage.{Stage}
use Rattle.permit_base.specs.declared.words.Stage.TheVariants as stage
use Rattle.permit_base.specs.declared.stages.Expiry.{Expiry}
use Rattle.permit_base.specs.declared.stages.Expiry.TheVariants.{Never, Application, Permit}
use Rattle.permit_base.specs.declared.stages.StageFacts.{StageFacts}
use Rattle.permit_base.specs.Stages.{stage_facts, is_running}
use Rattle.permit_base.specs.declared.refusal.Reason.{Reason}
use Rattle.permit_base.specs.declared.refusal.Reason.TheVariants as reason
use Rattle.permit_base.specs.declared.request.Command.{Command}
use Rattle.permit_base.specs.declared.request.Command.TheVariants.{AssignReviewer, AssignInspector, NameContractor, StartReview, Return, Resubmit, ApprovePlans}
use Rattle.permit_base.specs.declared.request.Command.TheVariants.{Reject, Issue, AskExtension, GrantExtension, RefuseExtension, BeginWork, RequestInspection}
use Rattle.permit_base.specs.declared.request.Command.TheVariants.{ApproveStep, Notice, ClearNotice, Stop, Lift, Revoke, Temporary, Certify}
use Rattle.permit_base.specs.declared.request.Request.{Request}
use Rattle.permit_base.specs.declared.request.Request.TheVariants.{AddParty, AddParcel, Transfer, Declare, ReadParcel, File, ReadFile, ListFiles, Register}
use Rattle.permit_base.specs.declared.request.Request.TheVariants.{OnFile}
use Rattle.permit_base.specs.Limits.{latest_deadline, most_records, most_papers}
use Rattle.permit_base.specs.Digests.{digest_of}
use Rattle.permit_model.specs.Days.{longest_review_extension, longest_permit_extension, longest_temporary}
use Rattle.permit_model.specs.Search.{is_the_party, has_number}
use Rattle.permit_model.specs.Codes.{is_step, is_stage}
use Rattle.permit_model.specs.Steps.{has_certificates}
use Rattle.permit_model.specs.History.{History}
use Rattle.permit_model.specs.Caller.{parties, party_numbered, who, is_party, has_role}
use Rattle.permit_model.specs.Parcels.{parcels, owner, has_interest}
use Rattle.permit_model.specs.Files.{CaseFile, filings, case_numbered}
use Rattle.permit_model.specs.People.{contractor}
use Rattle.permit_model.specs.Work.{next_of, pending_step, pending_ask, open_notices, is_stopped, paper_count}
use Rattle.permit_model.specs.Deadline.{deadline}
use Rattle.permit_model.specs.Facts.{stage_on}

-- a test: whether it fails the command, and the reason that is then answered
abbrev pub Test : Type 0
Test = Bool × Reason

-- the reason of the first test that fails
abbrev pub first_failing : List Test → Option Reason
first_failing [] = None
first_failing (test ∷ tests) = if test.0 then Some test.1 else first_failing tests

-- ---- the tests

-- what is so of the file in its stage on the day
abbrev pub facts_on : ℕ → CaseFile → StageFacts
facts_on day file = stage_facts (stage_on day file)

-- the stage on the day doesn't admit it
abbrev pub unless_stage : Bool → Test
unless_stage admitted = (not admitted, reason.Stage)

-- the stage on the day is another
abbrev pub not_at : ℕ → CaseFile → Stage → Test
not_at day file wanted = unless_stage (is_stage (stage_on day file) wanted)

-- no deadline runs in the stage on the day
abbrev pub not_timed : ℕ → CaseFile → Test
not_timed day file = unless_stage (is_running (facts_on day file).expiry)

-- a stop work order is in force
abbrev pub stopped : CaseFile → Test
stopped file = (is_stopped file.acts, reason.Stopped)

-- the party isn't there
abbrev pub no_party : History → ℕ → Test
no_party h party = (not (is_party h party), reason.Person)

-- the party isn't there, or has another role
abbrev pub no_party_of_role : History → Role → ℕ → Test
no_party_of_role h role party = (not (has_role role (party_numbered h party)), reason.Person)

-- the file's applicant or contractor, the parcel's owner, or one with an interest in the parcel
abbrev pub is_interested : History → CaseFile → ℕ → Bool
is_interested h file party =
    (file.filing.applicant == party) || is_the_party (contractor file.acts) party
    || is_the_party (owner h file.filing.parcel) party || has_interest h file.filing.parcel party

-- the party named has a part in the file or its parcel
abbrev pub interested : History → CaseFile → ℕ → Test
interested h file party = (is_interested h file party, reason.Interested)

-- more days than the limit
abbrev pub days_above : ℕ → ℕ → Test
days_above limit days = (nat_lt limit days, reason.Days)

-- the most days that may be asked of what expires
abbrev pub limit_by : Expiry → ℕ
limit_by Permit = longest_permit_extension
limit_by Application = longest_review_extension
limit_by Never = longest_review_extension

-- the most days that may be asked in a stage
abbrev pub ask_limit : Stage → ℕ
ask_limit s = limit_by (stage_facts s).expiry

-- an ask is pending
abbrev pub ask_pending : CaseFile → Test
ask_pending file = (is_some (pending_ask file.acts), reason.Pending)

-- no ask is pending
abbrev pub no_ask_pending : CaseFile → Test
no_ask_pending file = (is_none (pending_ask file.acts), reason.NothingPending)

-- a request for inspection is pending
abbrev pub inspection_pending : CaseFile → Test
inspection_pending file = (is_some (pending_step file.acts), reason.Pending)

-- no request for inspection is pending
abbrev pub no_inspection_pending : CaseFile → Test
no_inspection_pending file = (is_none (pending_step file.acts), reason.NothingPending)

-- no stop work order is in force
abbrev pub not_stopped : CaseFile → Test
not_stopped file = (not (is_stopped file.acts), reason.NothingPending)

-- whether there is a step and it is this one
abbrev pub is_the_step : Option Step → Step → Bool
is_the_step None step = false
is_the_step (Some other) step = is_step other step

-- the step isn't the next one
abbrev pub not_the_next : CaseFile → Step → Test
not_the_next file step = (not (is_the_step (next_of file) step), reason.Step)

-- the step isn't the one whose inspection was requested
abbrev pub not_the_requested : CaseFile → Step → Test
not_the_requested file step = (not (is_the_step (pending_step file.acts) step), reason.Step)

-- a notice of the file is open
abbrev pub notice_open : CaseFile → Test
notice_open file = (nat_lt 0 (length (open_notices file.acts)), reason.NoticeOpen)

-- no open notice of the file has the number
abbrev pub no_such_notice : CaseFile → ℕ → Test
no_such_notice file paper = (not (has_number (open_notices file.acts) paper), reason.NoSuchNotice)

-- the kind has no certificates
abbrev pub no_certificates : CaseFile → Test
no_certificates file = (not (has_certificates file.filing.kind), reason.Kind)

-- the file has as many papers as it may have
abbrev pub papers_full : CaseFile → Test
papers_full file = (nat_le most_papers (paper_count file.acts), reason.Full)

-- the deadline with the asked days is too far
abbrev pub too_far : CaseFile → Test
too_far file = (nat_lt latest_deadline (unwrap_or (deadline file) 0 + unwrap_or (pending_ask file.acts) 0), reason.Far)

-- ---- the tests of each command

-- the tests of a command on a file, in the order of the reasons
abbrev pub file_tests : History → ℕ → CaseFile → Command → List Test
file_tests h day file (AssignReviewer party) = unless_stage (facts_on day file).reviewing ∷ no_party_of_role h Reviewer party ∷ interested h file party ∷ []
file_tests h day file (AssignInspector party) = unless_stage (facts_on day file).inspecting ∷ no_party_of_role h Inspector party ∷ interested h file party ∷ []
file_tests h day file (NameContractor party) = not_timed day file ∷ no_party h party ∷ []
file_tests h day file StartReview = not_at day file stage.Filed ∷ []
file_tests h day file (Return text) = not_at day file stage.Review ∷ papers_full file ∷ []
file_tests h day file (Resubmit text) = not_at day file stage.Returned ∷ papers_full file ∷ []
file_tests h day file ApprovePlans = not_at day file stage.Review ∷ []
file_tests h day file (Reject text) = not_at day file stage.Review ∷ papers_full file ∷ []
file_tests h day file Issue = not_at day file stage.Approved ∷ papers_full file ∷ []
file_tests h day file (AskExtension days text) = not_timed day file ∷ days_above (ask_limit (stage_on day file)) days ∷ ask_pending file
    ∷ papers_full file ∷ []
file_tests h day file GrantExtension = not_timed day file ∷ no_ask_pending file ∷ papers_full file ∷ too_far file ∷ []
file_tests h day file (RefuseExtension text) = not_timed day file ∷ no_ask_pending file ∷ papers_full file ∷ []
file_tests h day file BeginWork = not_at day file stage.Issued ∷ stopped file ∷ []
file_tests h day file (RequestInspection step) = not_at day file stage.Working ∷ stopped file ∷ inspection_pending file ∷ not_the_next file step ∷ []
file_tests h day file (ApproveStep step) = not_at day file stage.Working ∷ stopped file ∷ no_inspection_pending file ∷ not_the_requested file step
    ∷ notice_open file ∷ []
file_tests h day file (Notice text) = not_at day file stage.Working ∷ no_inspection_pending file ∷ papers_full file ∷ []
file_tests h day file (ClearNotice paper) = not_at day file stage.Working ∷ no_such_notice file paper ∷ []
file_tests h day file (Stop text conditions) = unless_stage (facts_on day file).stoppable ∷ stopped file ∷ papers_full file ∷ []
file_tests h day file Lift = unless_stage (facts_on day file).stoppable ∷ not_stopped file ∷ papers_full file ∷ []
file_tests h day file (Revoke text) = unless_stage (facts_on day file).revocable ∷ papers_full file ∷ []
file_tests h day file (Temporary days text) = not_at day file stage.Working ∷ stopped file ∷ days_above longest_temporary days ∷ notice_open file
    ∷ no_certificates file ∷ papers_full file ∷ []
file_tests h day file Certify = not_at day file stage.Finaled ∷ stopped file ∷ no_certificates file ∷ papers_full file ∷ []

-- a file that isn't there has no tests: it is refused before
abbrev pub tests_on : History → ℕ → Option CaseFile → Command → List Test
tests_on h day None command = []
tests_on h day (Some file) command = file_tests h day file command

-- the tests of a request of the caller on the day; a read, a listing and a register change nothing, and have none
abbrev pub tests : History → ℕ → ℕ → Request → List Test
tests h day caller (AddParty name role token) = (is_some (who h (digest_of token)), reason.Taken) ∷ (nat_le most_records (length (parties h)), reason.Full) ∷ []
tests h day caller (AddParcel lot address owner) = no_party h owner ∷ (list_any (λ p. bytes_eq p.lot lot) (parcels h), reason.Taken)
    ∷ (nat_le most_records (length (parcels h)), reason.Full) ∷ []
tests h day caller (Transfer parcel to) = no_party h to ∷ (is_the_party (owner h parcel) to, reason.Taken) ∷ []
tests h day caller (Declare parcel) = (has_interest h parcel caller, reason.Taken) ∷ []
tests h day caller (File parcel kind valuation description) = (nat_le most_records (length (filings h)), reason.Full) ∷ []
tests h day caller (OnFile file command) = tests_on h day (case_numbered h file) command
tests h day caller (ReadParcel parcel) = []
tests h day caller (ReadFile file) = []
tests h day caller (ListFiles filter) = []
tests h day caller (Register kind) = []

-- the reason for which the request isn't admitted, or None where it is
abbrev pub reason_against : History → ℕ → ℕ → Request → Option Reason
reason_against h day caller request = first_failing (tests h day caller request)
