-- The one spelling of each word, and what a text is read as. A timing that isn't there is spelled none.
use Rattle.std.specs.Prelude.{◌≡◌, ℕ, List, [], ◌∷◌, codes, Option, Some, bytes_eq}
use Rattle.std.specs.List.{find}
use Rattle.permit_base.specs.declared.words.Role.{Role}
use Rattle.permit_base.specs.declared.words.Role.TheVariants as role
use Rattle.permit_base.specs.declared.words.Kind.{Kind}
use Rattle.permit_base.specs.declared.words.Kind.TheVariants as kind
use Rattle.permit_base.specs.declared.words.Step.{Step}
use Rattle.permit_base.specs.declared.words.Step.TheVariants as step
use Rattle.permit_base.specs.declared.words.Stage.{Stage}
use Rattle.permit_base.specs.declared.words.Stage.TheVariants as stage
use Rattle.permit_base.specs.declared.words.Timing.{Timing}
use Rattle.permit_base.specs.declared.words.Timing.TheVariants as timing
use Rattle.permit_base.specs.declared.words.Relation.{Relation}
use Rattle.permit_base.specs.declared.words.Relation.TheVariants as relation
use Rattle.permit_base.specs.declared.words.PaperSort.{PaperSort}
use Rattle.permit_base.specs.declared.words.PaperSort.TheVariants as sort
use Rattle.permit_base.specs.declared.words.Action.{Action}
use Rattle.permit_base.specs.declared.words.Action.TheVariants as action
use Rattle.permit_base.specs.declared.words.Effect.{Effect}
use Rattle.permit_base.specs.declared.words.Effect.TheVariants as effect
use Rattle.permit_base.specs.declared.words.RegisterKind.{RegisterKind}
use Rattle.permit_base.specs.declared.words.RegisterKind.TheVariants as register
use Rattle.permit_base.specs.declared.refusal.Reason.{Reason}
use Rattle.permit_base.specs.declared.refusal.Reason.TheVariants as reason

-- the first of these words that is spelled so
abbrev pub named : {A : Type 0} → (A → List ℕ) → List A → List ℕ → Option A
named spelling words text = find (λ w. bytes_eq (spelling w) text) words

-- reading the spelling of a word gives the word
abbrev pub IsReadBack : {A : Type 0} → (A → List ℕ) → List A → Type 0
IsReadBack spelling words = (w : _) → named spelling words (spelling w) ≡ Some w

-- the spelling of a role
abbrev pub role_word : Role → List ℕ
role_word role.Public = codes "public"
role_word role.Clerk = codes "clerk"
role_word role.Reviewer = codes "reviewer"
role_word role.Inspector = codes "inspector"
role_word role.Official = codes "official"

-- the spelling of a kind of work
abbrev pub kind_word : Kind → List ℕ
kind_word kind.Construct = codes "construct"
kind_word kind.Enlarge = codes "enlarge"
kind_word kind.Alter = codes "alter"
kind_word kind.Repair = codes "repair"
kind_word kind.Move = codes "move"
kind_word kind.Demolish = codes "demolish"
kind_word kind.Occupancy = codes "occupancy"

-- the spelling of an inspection
abbrev pub step_word : Step → List ℕ
step_word step.Footing = codes "footing"
step_word step.Slab = codes "slab"
step_word step.Frame = codes "frame"
step_word step.Lath = codes "lath"
step_word step.Final = codes "final"
step_word step.Energy = codes "energy"

-- the spelling of a stage
abbrev pub stage_word : Stage → List ℕ
stage_word stage.Filed = codes "filed"
stage_word stage.Review = codes "review"
stage_word stage.Returned = codes "returned"
stage_word stage.Approved = codes "approved"
stage_word stage.Rejected = codes "rejected"
stage_word stage.Issued = codes "issued"
stage_word stage.Working = codes "working"
stage_word stage.Revoked = codes "revoked"
stage_word stage.Finaled = codes "finaled"
stage_word stage.Certified = codes "certified"
stage_word stage.Abandoned = codes "abandoned"
stage_word stage.Lapsed = codes "lapsed"
stage_word stage.New = codes "new"
stage_word stage.Office = codes "office"

-- the spelling of a timing
abbrev pub timing_word : Timing → List ℕ
timing_word timing.Untimed = codes "none"
timing_word timing.Past = codes "past"
timing_word timing.Near = codes "near"
timing_word timing.Ahead = codes "ahead"

-- the spelling of a relation
abbrev pub relation_word : Relation → List ℕ
relation_word relation.Applicant = codes "applicant"
relation_word relation.Contractor = codes "contractor"
relation_word relation.Owner = codes "owner"
relation_word relation.AssignedReviewer = codes "assigned-reviewer"
relation_word relation.AssignedInspector = codes "assigned-inspector"
relation_word relation.Conflict = codes "conflict"

-- the spelling of a sort of paper
abbrev pub sort_word : PaperSort → List ℕ
sort_word sort.Permit = codes "permit"
sort_word sort.Returned = codes "returned"
sort_word sort.Resubmitted = codes "resubmitted"
sort_word sort.Rejected = codes "rejected"
sort_word sort.Asked = codes "asked"
sort_word sort.Granted = codes "granted"
sort_word sort.Refused = codes "refused"
sort_word sort.Notice = codes "notice"
sort_word sort.Stop = codes "stop"
sort_word sort.Lifted = codes "lifted"
sort_word sort.Revoked = codes "revoked"
sort_word sort.Temporary = codes "temporary"
sort_word sort.Certificate = codes "certificate"

-- the spelling of an action
abbrev pub action_word : Action → List ℕ
action_word action.AddParty = codes "add-party"
action_word action.AddStaff = codes "add-staff"
action_word action.AddParcel = codes "add-parcel"
action_word action.Transfer = codes "transfer"
action_word action.Declare = codes "declare"
action_word action.ReadParcel = codes "read-parcel"
action_word action.File = codes "file"
action_word action.Read = codes "read"
action_word action.List = codes "list"
action_word action.AssignReviewer = codes "assign-reviewer"
action_word action.AssignInspector = codes "assign-inspector"
action_word action.NameContractor = codes "name-contractor"
action_word action.StartReview = codes "start-review"
action_word action.Return = codes "return"
action_word action.Resubmit = codes "resubmit"
action_word action.ApprovePlans = codes "approve-plans"
action_word action.Reject = codes "reject"
action_word action.Issue = codes "issue"
action_word action.AskExtension = codes "ask-extension"
action_word action.GrantExtension = codes "grant-extension"
action_word action.RefuseExtension = codes "refuse-extension"
action_word action.BeginWork = codes "begin-work"
action_word action.RequestInspection = codes "request-inspection"
action_word action.ApproveStep = codes "approve-step"
action_word action.Notice = codes "notice"
action_word action.ClearNotice = codes "clear-notice"
action_word action.Stop = codes "stop"
action_word action.Lift = codes "lift"
action_word action.Revoke = codes "revoke"
action_word action.Temporary = codes "temporary"
action_word action.Certify = codes "certify"

-- the spelling of an effect
abbrev pub effect_word : Effect → List ℕ
effect_word effect.Allow = codes "allow"
effect_word effect.Deny = codes "deny"

-- the spelling of a register
abbrev pub register_word : RegisterKind → List ℕ
register_word register.Files = codes "files"
register_word register.Deadlines = codes "deadlines"
register_word register.Inspections = codes "inspections"

-- the spelling of a reason
abbrev pub reason_word : Reason → List ℕ
reason_word reason.Stage = codes "stage"
reason_word reason.Stopped = codes "stopped"
reason_word reason.Person = codes "person"
reason_word reason.Interested = codes "interested"
reason_word reason.Days = codes "days"
reason_word reason.Pending = codes "pending"
reason_word reason.NothingPending = codes "nothing-pending"
reason_word reason.Step = codes "step"
reason_word reason.NoticeOpen = codes "notice-open"
reason_word reason.NoSuchNotice = codes "no-such-notice"
reason_word reason.Kind = codes "kind"
reason_word reason.Taken = codes "taken"
reason_word reason.Full = codes "full"
reason_word reason.Far = codes "far"

-- each role once
abbrev pub all_roles : List Role
all_roles =
    role.Public ∷ role.Clerk ∷ role.Reviewer ∷ role.Inspector ∷ role.Official ∷ []

-- each kind once
abbrev pub all_kinds : List Kind
all_kinds =
    kind.Construct ∷ kind.Enlarge ∷ kind.Alter ∷ kind.Repair ∷ kind.Move ∷ kind.Demolish ∷ kind.Occupancy ∷ []

-- each step once
abbrev pub all_steps : List Step
all_steps =
    step.Footing ∷ step.Slab ∷ step.Frame ∷ step.Lath ∷ step.Final ∷ step.Energy ∷ []

-- each stage once
abbrev pub all_stages : List Stage
all_stages =
    stage.Filed ∷ stage.Review ∷ stage.Returned ∷ stage.Approved ∷ stage.Rejected ∷ stage.Issued ∷ stage.Working ∷ stage.Revoked ∷ stage.Finaled
    ∷ stage.Certified ∷ stage.Abandoned ∷ stage.Lapsed ∷ stage.New ∷ stage.Office ∷ []

-- each timing once
abbrev pub all_timings : List Timing
all_timings =
    timing.Untimed ∷ timing.Past ∷ timing.Near ∷ timing.Ahead ∷ []

-- each relation once
abbrev pub all_relations : List Relation
all_relations =
    relation.Applicant ∷ relation.Contractor ∷ relation.Owner ∷ relation.AssignedReviewer ∷ relation.AssignedInspector ∷ relation.Conflict ∷ []

-- each sort of paper once
abbrev pub all_sorts : List PaperSort
all_sorts =
    sort.Permit ∷ sort.Returned ∷ sort.Resubmitted ∷ sort.Rejected ∷ sort.Asked ∷ sort.Granted ∷ sort.Refused ∷ sort.Notice ∷ sort.Stop ∷ sort.Lifted
    ∷ sort.Revoked ∷ sort.Temporary ∷ sort.Certificate ∷ []

-- each action once
abbrev pub all_actions : List Action
all_actions =
    action.AddParty ∷ action.AddStaff ∷ action.AddParcel ∷ action.Transfer ∷ action.Declare ∷ action.ReadParcel ∷ action.File ∷ action.Read ∷ action.List
    ∷ action.AssignReviewer ∷ action.AssignInspector ∷ action.NameContractor ∷ action.StartReview ∷ action.Return ∷ action.Resubmit ∷ action.ApprovePlans
    ∷ action.Reject ∷ action.Issue ∷ action.AskExtension ∷ action.GrantExtension ∷ action.RefuseExtension ∷ action.BeginWork ∷ action.RequestInspection
    ∷ action.ApproveStep ∷ action.Notice ∷ action.ClearNotice ∷ action.Stop ∷ action.Lift ∷ action.Revoke ∷ action.Temporary ∷ action.Certify ∷ []

-- each effect once
abbrev pub all_effects : List Effect
all_effects =
    effect.Allow ∷ effect.Deny ∷ []

-- each register once
abbrev pub all_registers : List RegisterKind
all_registers =
    register.Files ∷ register.Deadlines ∷ register.Inspections ∷ []

-- each reason once
abbrev pub all_reasons : List Reason
all_reasons =
    reason.Stage ∷ reason.Stopped ∷ reason.Person ∷ reason.Interested ∷ reason.Days ∷ reason.Pending ∷ reason.NothingPending ∷ reason.Step ∷ reason.NoticeOpen
    ∷ reason.NoSuchNotice ∷ reason.Kind ∷ reason.Taken ∷ reason.Full ∷ reason.Far ∷ []
