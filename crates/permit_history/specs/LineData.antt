-- The line of an entry: a JSON object with its keys in byte order, and no space.
use Rattle.std.specs.Prelude.{ℕ, List, [], ◌∷◌, ◌++◌, codes, Option, None, Some}
use Rattle.serde_json.specs.Data.{Data, null, number, unsigned, string, object, Members, no_members, member}
use Rattle.serde_json.specs.Written.{compact_text}
use Rattle.permit_base.specs.declared.words.Role.{Role}
use Rattle.permit_base.specs.declared.words.Kind.{Kind}
use Rattle.permit_base.specs.declared.words.Action.{Action}
use Rattle.permit_base.specs.declared.words.Action.TheVariants as action
use Rattle.permit_base.specs.declared.request.Command.{Command}
use Rattle.permit_base.specs.declared.request.Command.TheVariants as command
use Rattle.permit_base.specs.Actions.{adding_action, command_action}
use Rattle.permit_base.specs.Words.{role_word, kind_word, step_word, action_word}
use Rattle.permit_history.specs.declared.entry.Act.{Act}
use Rattle.permit_history.specs.declared.entry.Act.TheVariants as act
use Rattle.permit_history.specs.declared.entry.Deed.{Deed}
use Rattle.permit_history.specs.declared.entry.Deed.TheVariants as deed
use Rattle.permit_history.specs.declared.entry.Entry.{Entry}

abbrev pub count : ℕ → Data
count n = number (unsigned n)

-- a number, or null where there is none
abbrev pub count_or_null : Option ℕ → Data
count_or_null None = null
count_or_null (Some n) = count n

-- ---- the bodies

-- a body with one member
abbrev pub only : List ℕ → Data → Members
only key value = member key value no_members

abbrev pub term_body : ℕ → List ℕ → Members
term_body days text = member (codes "days") (count days) (only (codes "text") (string text))

abbrev pub stop_body : List ℕ → List ℕ → Members
stop_body text conditions = member (codes "conditions") (string conditions) (only (codes "text") (string text))

abbrev pub party_body : List ℕ → Role → List ℕ → Members
party_body name role digest =
    member (codes "digest") (string digest) (member (codes "name") (string name) (only (codes "role") (string (role_word role))))

abbrev pub parcel_body : List ℕ → List ℕ → ℕ → Members
parcel_body lot address owner =
    member (codes "address") (string address) (member (codes "lot") (string lot) (only (codes "owner") (count owner)))

abbrev pub filing_body : ℕ → Kind → ℕ → List ℕ → Members
filing_body parcel kind valuation description =
    member (codes "description") (string description) (member (codes "kind") (string (kind_word kind))
    (member (codes "parcel") (count parcel) (only (codes "valuation") (count valuation))))

abbrev pub founding_body : List ℕ → List ℕ → Members
founding_body name digest = member (codes "digest") (string digest) (only (codes "name") (string name))

abbrev pub renewal_body : ℕ → List ℕ → Members
renewal_body party digest = member (codes "digest") (string digest) (only (codes "party") (count party))

abbrev pub begin_body : List ℕ → Members
begin_body digest = only (codes "tables") (string digest)

-- the body of a command on a file
abbrev pub command_body : Command → Members
command_body (command.AssignReviewer party) = only (codes "party") (count party)
command_body (command.AssignInspector party) = only (codes "party") (count party)
command_body (command.NameContractor party) = only (codes "party") (count party)
command_body command.StartReview = no_members
command_body (command.Return text) = only (codes "text") (string text)
command_body (command.Resubmit text) = only (codes "text") (string text)
command_body command.ApprovePlans = no_members
command_body (command.Reject text) = only (codes "text") (string text)
command_body command.Issue = no_members
command_body (command.AskExtension days text) = term_body days text
command_body command.GrantExtension = no_members
command_body (command.RefuseExtension text) = only (codes "text") (string text)
command_body command.BeginWork = no_members
command_body (command.RequestInspection step) = only (codes "step") (string (step_word step))
command_body (command.ApproveStep step) = only (codes "step") (string (step_word step))
command_body (command.Notice text) = only (codes "text") (string text)
command_body (command.ClearNotice paper) = only (codes "paper") (count paper)
command_body (command.Stop text conditions) = stop_body text conditions
command_body command.Lift = no_members
command_body (command.Revoke text) = only (codes "text") (string text)
command_body (command.Temporary days text) = term_body days text
command_body command.Certify = no_members

-- the body of an accepted command
abbrev pub act_body : Act → Members
act_body (act.AddParty name role digest made) = party_body name role digest
act_body (act.AddParcel lot address owner made) = parcel_body lot address owner
act_body (act.Transfer parcel to) = only (codes "to") (count to)
act_body (act.Declare parcel) = no_members
act_body (act.File parcel kind valuation description made) = filing_body parcel kind valuation description
act_body (act.OnFile file command made) = command_body command

-- what the request's body said, with a token's digest in place of the token
abbrev pub deed_body : Deed → Members
deed_body (deed.Begin tables) = begin_body tables
deed_body (deed.Found name digest) = founding_body name digest
deed_body deed.Upgrade = no_members
deed_body (deed.RenewToken party digest) = renewal_body party digest
deed_body (deed.Accepted caller act) = act_body act

-- ---- the other members

-- the action of an accepted command
abbrev pub act_action : Act → Action
act_action (act.AddParty name role digest made) = adding_action role
act_action (act.AddParcel lot address owner made) = action.AddParcel
act_action (act.Transfer parcel to) = action.Transfer
act_action (act.Declare parcel) = action.Declare
act_action (act.File parcel kind valuation description made) = action.File
act_action (act.OnFile file command made) = command_action command

-- the word of what was done: a command's as its answer has it
abbrev pub done_word : Deed → List ℕ
done_word (deed.Begin tables) = codes "begin"
done_word (deed.Found name digest) = codes "found"
done_word deed.Upgrade = codes "upgrade"
done_word (deed.RenewToken party digest) = codes "renew-token"
done_word (deed.Accepted caller act) = action_word (act_action act)

-- the caller's number, and 0 for what is no command
abbrev pub caller_in : Deed → ℕ
caller_in (deed.Begin tables) = 0
caller_in (deed.Found name digest) = 0
caller_in deed.Upgrade = 0
caller_in (deed.RenewToken party digest) = 0
caller_in (deed.Accepted caller act) = caller

-- the number that the path of the request names
abbrev pub act_id : Act → Option ℕ
act_id (act.AddParty name role digest made) = None
act_id (act.AddParcel lot address owner made) = None
act_id (act.Transfer parcel to) = Some parcel
act_id (act.Declare parcel) = Some parcel
act_id (act.File parcel kind valuation description made) = None
act_id (act.OnFile file command made) = Some file

abbrev pub id_in : Deed → Option ℕ
id_in (deed.Begin tables) = None
id_in (deed.Found name digest) = None
id_in deed.Upgrade = None
id_in (deed.RenewToken party digest) = None
id_in (deed.Accepted caller act) = act_id act

-- the number of what was made
abbrev pub act_number : Act → Option ℕ
act_number (act.AddParty name role digest made) = Some made
act_number (act.AddParcel lot address owner made) = Some made
act_number (act.Transfer parcel to) = None
act_number (act.Declare parcel) = None
act_number (act.File parcel kind valuation description made) = Some made
act_number (act.OnFile file command made) = made

-- the founder is party 1
abbrev pub number_in : Deed → Option ℕ
number_in (deed.Begin tables) = None
number_in (deed.Found name digest) = Some 1
number_in deed.Upgrade = None
number_in (deed.RenewToken party digest) = None
number_in (deed.Accepted caller act) = act_number act

-- ---- the line

-- the members after the body
abbrev pub members_after_body : Entry → Members
members_after_body entry =
    member (codes "caller") (count (caller_in entry.deed))
    (member (codes "day") (count entry.day)
    (member (codes "done") (string (done_word entry.deed))
    (member (codes "id") (count_or_null (id_in entry.deed))
    (only (codes "number") (count_or_null (number_in entry.deed))))))

-- what the line of an entry says
abbrev pub line_data : Entry → Data
line_data entry = object (member (codes "body") (object (deed_body entry.deed)) (members_after_body entry))

-- the line of an entry, without its LF
abbrev pub line_of : Entry → List ℕ
line_of entry = compact_text (line_data entry)

-- the text of a history whose entries come oldest first: each line, and LF
abbrev pub text_of : List Entry → List ℕ
text_of [] = []
text_of (entry ∷ later) = line_of entry ++ 10 ∷ text_of later
