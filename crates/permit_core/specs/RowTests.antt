-- The reason against a command on a file, read off its row and the people about it.
use Rattle.std.specs.Prelude.{◌≡◌, Result, Ok, Err, ℕ, Bool, false, not, ◌||◌, ◌&&◌, ◌==◌, ◌+◌, nat_lt, nat_le, List, [], ◌∷◌, Option, None, Some, unwrap_or}
use Rattle.std.specs.Prelude.{is_some, is_none}
use Rattle.permit_base.specs.declared.words.Role.{Role}
use Rattle.permit_base.specs.declared.words.Role.TheVariants.{Reviewer, Inspector}
use Rattle.permit_base.specs.declared.words.Step.{Step}
use Rattle.permit_base.specs.declared.words.Stage.{Stage}
use Rattle.permit_base.specs.declared.words.Stage.TheVariants as stage
use Rattle.permit_base.specs.declared.stages.StageFacts.{StageFacts}
use Rattle.permit_base.specs.Stages.{stage_facts, is_running}
use Rattle.permit_base.specs.declared.refusal.Reason.{Reason}
use Rattle.permit_base.specs.declared.refusal.Reason.TheVariants as reason
use Rattle.permit_base.specs.declared.request.Command.{Command}
use Rattle.permit_base.specs.declared.request.Command.TheVariants.{AssignReviewer, AssignInspector, NameContractor, StartReview, Return, Resubmit, ApprovePlans}
use Rattle.permit_base.specs.declared.request.Command.TheVariants.{Reject, Issue, AskExtension, GrantExtension, RefuseExtension, BeginWork, RequestInspection}
use Rattle.permit_base.specs.declared.request.Command.TheVariants.{ApproveStep, Notice, ClearNotice, Stop, Lift, Revoke, Temporary, Certify}
use Rattle.permit_core.specs.declared.people.NamedParty.{NamedParty}
use Rattle.permit_core.specs.declared.people.People.{People}
use Rattle.permit_model.specs.Search.{is_the_party}
use Rattle.permit_model.specs.Codes.{is_role, is_stage}
use Rattle.permit_model.specs.Steps.{has_certificates}
use Rattle.permit_model.specs.Admission.{Test, first_failing, unless_stage, ask_limit, is_the_step}
use Rattle.permit_model.specs.Admission.{days_above}
use Rattle.permit_base.specs.Limits.{latest_deadline, most_papers}
use Rattle.permit_model.specs.Days.{longest_temporary}
use Rattle.permit_model.specs.Tables.{State, next_in_row}
use Rattle.permit_core.specs.Views.{row_stage}

-- what is so of the file in its stage on the day
abbrev pub facts_on : ℕ → State → StageFacts
facts_on day s = stage_facts (row_stage day s)

-- the stage on the day is another
abbrev pub not_at : ℕ → State → Stage → Test
not_at day s wanted = unless_stage (is_stage (row_stage day s) wanted)

-- no deadline runs in the stage on the day
abbrev pub not_timed : ℕ → State → Test
not_timed day s = unless_stage (is_running (facts_on day s).expiry)

-- a stop work order is in force
abbrev pub stopped : State → Test
stopped s = (s.stopped, reason.Stopped)

-- no stop work order is in force
abbrev pub not_stopped : State → Test
not_stopped s = (not s.stopped, reason.NothingPending)

-- the named party isn't there
abbrev pub no_party : People → Test
no_party people = (not (is_some people.named), reason.Person)

-- there is a party of the role
abbrev pub is_of_role : Role → Option NamedParty → Bool
is_of_role role None = false
is_of_role role (Some p) = is_role role p.role

-- the named party isn't there, or isn't of the role
abbrev pub no_party_of_role : Role → People → Test
no_party_of_role role people = (not (is_of_role role people.named), reason.Person)

-- there is a party with an interest in the parcel
abbrev pub is_with_interest : Option NamedParty → Bool
is_with_interest None = false
is_with_interest (Some p) = p.has_interest

-- the file's applicant or contractor, the parcel's owner, or one with an interest in the parcel
abbrev pub interested : State → ℕ → People → Test
interested s party people = (
  (s.applicant == party) || is_the_party s.contractor party || is_the_party people.owner party || is_with_interest people.named,
  reason.Interested,
)

-- an ask for an extension is pending
abbrev pub ask_pending : State → Test
ask_pending s = (is_some s.ask, reason.Pending)

-- no ask is pending
abbrev pub no_ask_pending : State → Test
no_ask_pending s = (is_none s.ask, reason.NothingPending)

-- a request for an inspection is pending
abbrev pub request_pending : State → Test
request_pending s = (is_some s.request, reason.Pending)

-- no request is pending
abbrev pub no_request_pending : State → Test
no_request_pending s = (is_none s.request, reason.NothingPending)

-- the step isn't the next one
abbrev pub not_the_next : State → Step → Test
not_the_next s step = (not (is_the_step (next_in_row s) step), reason.Step)

-- the step isn't the requested one
abbrev pub not_the_requested : State → Step → Test
not_the_requested s step = (not (is_the_step s.request step), reason.Step)

-- a notice is open
abbrev pub notice_open : State → Test
notice_open s = (nat_lt 0 s.notices, reason.NoticeOpen)

-- a row without open notices has none of any number
abbrev pub no_such_notice : State → People → Test
no_such_notice s people = (not (people.is_open_notice && nat_lt 0 s.notices), reason.NoSuchNotice)

-- no certificates are given for the kind
abbrev pub no_certificates : State → Test
no_certificates s = (not (has_certificates s.kind), reason.Kind)

-- the file has the most papers
abbrev pub papers_full : State → Test
papers_full s = (nat_le most_papers s.papers, reason.Full)

-- the deadline with the asked days is too far
abbrev pub too_far : State → Test
too_far s = (nat_lt latest_deadline (unwrap_or s.deadline 0 + unwrap_or s.ask 0), reason.Far)

-- the tests of each command, in the order of the reasons
abbrev pub row_tests : ℕ → State → People → Command → List Test
row_tests day s people (AssignReviewer party) = unless_stage (facts_on day s).reviewing ∷ no_party_of_role Reviewer people ∷ interested s party people ∷ []
row_tests day s people (AssignInspector party) = unless_stage (facts_on day s).inspecting ∷ no_party_of_role Inspector people ∷ interested s party people ∷ []
row_tests day s people (NameContractor party) = not_timed day s ∷ no_party people ∷ []
row_tests day s people StartReview = not_at day s stage.Filed ∷ []
row_tests day s people (Return text) = not_at day s stage.Review ∷ papers_full s ∷ []
row_tests day s people (Resubmit text) = not_at day s stage.Returned ∷ papers_full s ∷ []
row_tests day s people ApprovePlans = not_at day s stage.Review ∷ []
row_tests day s people (Reject text) = not_at day s stage.Review ∷ papers_full s ∷ []
row_tests day s people Issue = not_at day s stage.Approved ∷ papers_full s ∷ []
row_tests day s people (AskExtension days text) = not_timed day s ∷ days_above (ask_limit (row_stage day s)) days ∷ ask_pending s ∷ papers_full s ∷ []
row_tests day s people GrantExtension = not_timed day s ∷ no_ask_pending s ∷ papers_full s ∷ too_far s ∷ []
row_tests day s people (RefuseExtension text) = not_timed day s ∷ no_ask_pending s ∷ papers_full s ∷ []
row_tests day s people BeginWork = not_at day s stage.Issued ∷ stopped s ∷ []
row_tests day s people (RequestInspection step) = not_at day s stage.Working ∷ stopped s ∷ request_pending s ∷ not_the_next s step ∷ []
row_tests day s people (ApproveStep step) = not_at day s stage.Working ∷ stopped s ∷ no_request_pending s ∷ not_the_requested s step ∷ notice_open s ∷ []
row_tests day s people (Notice text) = not_at day s stage.Working ∷ no_request_pending s ∷ papers_full s ∷ []
row_tests day s people (ClearNotice paper) = not_at day s stage.Working ∷ no_such_notice s people ∷ []
row_tests day s people (Stop text conditions) = unless_stage (facts_on day s).stoppable ∷ stopped s ∷ papers_full s ∷ []
row_tests day s people Lift = unless_stage (facts_on day s).stoppable ∷ not_stopped s ∷ papers_full s ∷ []
row_tests day s people (Revoke text) = unless_stage (facts_on day s).revocable ∷ papers_full s ∷ []
row_tests day s people (Temporary days text) = not_at day s stage.Working ∷ stopped s ∷ days_above longest_temporary days ∷ notice_open s
    ∷ no_certificates s ∷ papers_full s ∷ []
row_tests day s people Certify = not_at day s stage.Finaled ∷ stopped s ∷ no_certificates s ∷ papers_full s ∷ []

-- the answer to a command: done where there is no reason against it, else the reason
abbrev pub Admits : Result Unit Reason → Option Reason → Type 0
Admits (Ok done) against = against ≡ None
Admits (Err reason) against = against ≡ Some reason

-- the command is admitted on the day, with some people about it
abbrev pub IsAdmitted : ℕ → State → Command → Type 0
IsAdmitted day s command = (people : People) × (first_failing (row_tests day s people command) ≡ None)
