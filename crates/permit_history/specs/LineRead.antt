-- What a line says: the entry whose line it is, or what is wrong with it.
use Rattle.std.specs.Prelude.{ℕ, List, length, nat_lt, bytes_eq, if◌then◌else◌, Option, Some, None, option_map, codes, Result, Ok, Err}
use Rattle.serde_json.specs.Data.{Data}
use Rattle.serde_json.specs.Find.{get}
use Rattle.permit_base.specs.declared.words.Action.{Action}
use Rattle.permit_base.specs.declared.words.Action.TheVariants as action
use Rattle.permit_base.specs.declared.request.Command.{Command}
use Rattle.permit_base.specs.declared.request.Command.TheVariants as command
use Rattle.permit_base.specs.Limits.{is_object_number, is_day, is_days, is_paper_number, is_cents}
use Rattle.permit_base.specs.Texts.{is_printable, is_lot, is_digest}
use Rattle.permit_base.specs.Words.{named, role_word, all_roles, kind_word, all_kinds, step_word, all_steps, action_word, all_actions}
use Rattle.permit_history.specs.declared.entry.Act.{Act}
use Rattle.permit_history.specs.declared.entry.Act.TheVariants as act
use Rattle.permit_history.specs.declared.entry.Deed.{Deed}
use Rattle.permit_history.specs.declared.entry.Deed.TheVariants as deed
use Rattle.permit_history.specs.declared.entry.Entry.{Entry}
use Rattle.permit_history.specs.declared.fault.LineFault.{LineFault}
use Rattle.permit_history.specs.declared.fault.LineFault.TheVariants.{Long, Syntax, Fields, Form}
use Rattle.permit_history.specs.Fields.{◌>>=◌, said, number_at, number_or_null_at, string_at, text_at, word_at}
use Rattle.permit_history.specs.LineData.{line_of}

-- ---- what a value says, by the members that its entry needs; the others may say anything

-- a body's days and text
abbrev pub term_in : Data → Option (ℕ × List ℕ)
term_in body =
    number_at is_days (codes "days") body >>= λ days.
    (text_at is_printable (codes "text") body >>= λ text. Some (days, text))

-- the body of a stop order
abbrev pub stop_in : Data → Option Command
stop_in body =
    text_at is_printable (codes "text") body >>= λ text.
    (text_at is_printable (codes "conditions") body >>= λ conditions. Some (command.Stop text conditions))

-- the command of an action that has no members in its body
abbrev pub bare_command : Action → Option Command
bare_command action.StartReview = Some command.StartReview
bare_command action.ApprovePlans = Some command.ApprovePlans
bare_command action.Issue = Some command.Issue
bare_command action.GrantExtension = Some command.GrantExtension
bare_command action.BeginWork = Some command.BeginWork
bare_command action.Lift = Some command.Lift
bare_command action.Certify = Some command.Certify
bare_command action.AddParty = None
bare_command action.AddStaff = None
bare_command action.AddParcel = None
bare_command action.Transfer = None
bare_command action.Declare = None
bare_command action.ReadParcel = None
bare_command action.File = None
bare_command action.Read = None
bare_command action.List = None
bare_command action.AssignReviewer = None
bare_command action.AssignInspector = None
bare_command action.NameContractor = None
bare_command action.Return = None
bare_command action.Resubmit = None
bare_command action.Reject = None
bare_command action.AskExtension = None
bare_command action.RefuseExtension = None
bare_command action.RequestInspection = None
bare_command action.ApproveStep = None
bare_command action.Notice = None
bare_command action.ClearNotice = None
bare_command action.Stop = None
bare_command action.Revoke = None
bare_command action.Temporary = None

-- the command of an action whose body has the member text, or none
abbrev pub text_command_in : Action → Data → Option Command
text_command_in action.Return body = option_map command.Return (text_at is_printable (codes "text") body)
text_command_in action.Resubmit body = option_map command.Resubmit (text_at is_printable (codes "text") body)
text_command_in action.Reject body = option_map command.Reject (text_at is_printable (codes "text") body)
text_command_in action.RefuseExtension body = option_map command.RefuseExtension (text_at is_printable (codes "text") body)
text_command_in action.Notice body = option_map command.Notice (text_at is_printable (codes "text") body)
text_command_in action.Revoke body = option_map command.Revoke (text_at is_printable (codes "text") body)
text_command_in other body = bare_command other

-- the command on a file of an action and a body
abbrev pub command_in : Action → Data → Option Command
command_in action.AssignReviewer body = option_map command.AssignReviewer (number_at is_object_number (codes "party") body)
command_in action.AssignInspector body = option_map command.AssignInspector (number_at is_object_number (codes "party") body)
command_in action.NameContractor body = option_map command.NameContractor (number_at is_object_number (codes "party") body)
command_in action.AskExtension body = option_map (λ d. command.AskExtension d.0 d.1) (term_in body)
command_in action.Temporary body = option_map (λ d. command.Temporary d.0 d.1) (term_in body)
command_in action.RequestInspection body = option_map command.RequestInspection (word_at step_word all_steps (codes "step") body)
command_in action.ApproveStep body = option_map command.ApproveStep (word_at step_word all_steps (codes "step") body)
command_in action.ClearNotice body = option_map command.ClearNotice (number_at is_paper_number (codes "paper") body)
command_in action.Stop body = stop_in body
command_in other body = text_command_in other body

-- a new party
abbrev pub party_in : Data → Data → Option Act
party_in line body =
    text_at is_printable (codes "name") body >>= λ name.
    (word_at role_word all_roles (codes "role") body >>= λ role.
    (text_at is_digest (codes "digest") body >>= λ digest.
    (number_at is_object_number (codes "number") line >>= λ number.
    Some (act.AddParty name role digest number))))

-- a new parcel
abbrev pub parcel_in : Data → Data → Option Act
parcel_in line body =
    text_at is_lot (codes "lot") body >>= λ lot.
    (text_at is_printable (codes "address") body >>= λ address.
    (number_at is_object_number (codes "owner") body >>= λ owner.
    (number_at is_object_number (codes "number") line >>= λ number.
    Some (act.AddParcel lot address owner number))))

-- a transfer
abbrev pub transfer_in : Data → Data → Option Act
transfer_in line body =
    number_at is_object_number (codes "id") line >>= λ parcel.
    (number_at is_object_number (codes "to") body >>= λ to.
    Some (act.Transfer parcel to))

-- a filing
abbrev pub filing_in : Data → Data → Option Act
filing_in line body =
    number_at is_object_number (codes "parcel") body >>= λ parcel.
    (word_at kind_word all_kinds (codes "kind") body >>= λ kind.
    (number_at is_cents (codes "valuation") body >>= λ valuation.
    (text_at is_printable (codes "description") body >>= λ description.
    (number_at is_object_number (codes "number") line >>= λ number.
    Some (act.File parcel kind valuation description number)))))

-- a command on a file
abbrev pub on_file_in : Action → Data → Data → Option Act
on_file_in action line body =
    number_at is_object_number (codes "id") line >>= λ file.
    (command_in action body >>= λ command.
    (number_or_null_at is_paper_number (codes "number") line >>= λ number.
    Some (act.OnFile file command number)))

-- the accepted command of an action, with the line and its body
abbrev pub act_in : Action → Data → Data → Option Act
act_in action.AddParty line body = party_in line body
act_in action.AddStaff line body = party_in line body
act_in action.AddParcel line body = parcel_in line body
act_in action.Transfer line body = transfer_in line body
act_in action.Declare line body = option_map act.Declare (number_at is_object_number (codes "id") line)
act_in action.File line body = filing_in line body
act_in other line body = on_file_in other line body

-- an accepted command of a caller
abbrev pub accepted_in : List ℕ → Data → Data → Option Deed
accepted_in word line body =
    named action_word all_actions word >>= λ action.
    (number_at is_object_number (codes "caller") line >>= λ caller.
    (act_in action line body >>= λ act.
    Some (deed.Accepted caller act)))

-- a founding
abbrev pub founding_in : Data → Option Deed
founding_in body =
    text_at is_printable (codes "name") body >>= λ name.
    (text_at is_digest (codes "digest") body >>= λ digest.
    Some (deed.Found name digest))

-- another token of a party
abbrev pub renewal_in : Data → Option Deed
renewal_in body =
    number_at is_object_number (codes "party") body >>= λ party.
    (text_at is_digest (codes "digest") body >>= λ digest.
    Some (deed.RenewToken party digest))

-- the deed that begins with an office that was there already
abbrev pub beginning_in : Data → Option Deed
beginning_in body = option_map deed.Begin (text_at is_digest (codes "tables") body)

-- what was done, by its word
abbrev pub deed_in : List ℕ → Data → Data → Option Deed
deed_in word line body =
    if bytes_eq word (codes "found") then founding_in body else (
    if bytes_eq word (codes "upgrade") then Some deed.Upgrade else (
    if bytes_eq word (codes "renew-token") then renewal_in body else (
    if bytes_eq word (codes "begin") then beginning_in body else
    accepted_in word line body)))

-- the entry that a value says
abbrev pub entry_in : Data → Option Entry
entry_in line =
    number_at is_day (codes "day") line >>= λ day.
    (string_at (codes "done") line >>= λ word.
    (get (codes "body") line >>= λ body.
    (deed_in word line body >>= λ deed.
    Some (record { day = day; deed = deed }))))

-- ---- what a line says

-- the most bytes of a line
abbrev pub longest_line : ℕ
longest_line = 20000

-- an entry is that of its own line alone
abbrev pub answer_for : List ℕ → Option Entry → Result Entry LineFault
answer_for line None = Err Fields
answer_for line (Some entry) = if bytes_eq (line_of entry) line then Ok entry else Err Form

abbrev pub answer_to : List ℕ → Option Data → Result Entry LineFault
answer_to line None = Err Syntax
answer_to line (Some value) = answer_for line (entry_in value)

-- what reading a line without its LF answers
abbrev pub reading_of : List ℕ → Result Entry LineFault
reading_of line = if nat_lt longest_line (length line) then Err Long else answer_to line (said line)
