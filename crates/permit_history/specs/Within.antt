-- The entries within their limits.
use Rattle.std.specs.Prelude.{ℕ, List, Bool, true, ◌&&◌, Option, None, Some}
use Rattle.std.specs.Str.{is_utf8}
use Rattle.permit_base.specs.declared.request.Command.{Command}
use Rattle.permit_base.specs.declared.request.Command.TheVariants as command
use Rattle.permit_base.specs.Limits.{is_object_number, is_paper_number, is_day, is_days, is_cents}
use Rattle.permit_base.specs.Texts.{is_printable, is_lot, is_digest}
use Rattle.permit_history.specs.declared.entry.Act.{Act}
use Rattle.permit_history.specs.declared.entry.Act.TheVariants as act
use Rattle.permit_history.specs.declared.entry.Deed.{Deed}
use Rattle.permit_history.specs.declared.entry.Deed.TheVariants as deed
use Rattle.permit_history.specs.declared.entry.Entry.{Entry}

-- 1 to 2000 bytes of UTF-8 without a control character
abbrev pub is_text : List ℕ → Bool
is_text text = is_printable text && is_utf8 text

-- what a command on a file names is within its limits
abbrev pub is_command_within : Command → Bool
is_command_within (command.AssignReviewer party) = is_object_number party
is_command_within (command.AssignInspector party) = is_object_number party
is_command_within (command.NameContractor party) = is_object_number party
is_command_within command.StartReview = true
is_command_within (command.Return text) = is_text text
is_command_within (command.Resubmit text) = is_text text
is_command_within command.ApprovePlans = true
is_command_within (command.Reject text) = is_text text
is_command_within command.Issue = true
is_command_within (command.AskExtension days text) = is_days days && is_text text
is_command_within command.GrantExtension = true
is_command_within (command.RefuseExtension text) = is_text text
is_command_within command.BeginWork = true
is_command_within (command.RequestInspection step) = true
is_command_within (command.ApproveStep step) = true
is_command_within (command.Notice text) = is_text text
is_command_within (command.ClearNotice paper) = is_paper_number paper
is_command_within (command.Stop text conditions) = is_text text && is_text conditions
is_command_within command.Lift = true
is_command_within (command.Revoke text) = is_text text
is_command_within (command.Temporary days text) = is_days days && is_text text
is_command_within command.Certify = true

-- no number, or that of a paper
abbrev pub is_paper_or_none : Option ℕ → Bool
is_paper_or_none None = true
is_paper_or_none (Some number) = is_paper_number number

-- what an accepted command names is within its limits
abbrev pub is_act_within : Act → Bool
is_act_within (act.AddParty name role digest number) = is_text name && (is_digest digest && is_object_number number)
is_act_within (act.AddParcel lot address owner number) =
    is_lot lot && (is_text address && (is_object_number owner && is_object_number number))
is_act_within (act.Transfer parcel to) = is_object_number parcel && is_object_number to
is_act_within (act.Declare parcel) = is_object_number parcel
is_act_within (act.File parcel kind valuation description number) =
    is_object_number parcel && (is_cents valuation && (is_text description && is_object_number number))
is_act_within (act.OnFile file command number) = is_object_number file && (is_command_within command && is_paper_or_none number)

-- what was done is within its limits
abbrev pub is_deed_within : Deed → Bool
is_deed_within (deed.Begin tables) = is_digest tables
is_deed_within (deed.Found name digest) = is_text name && is_digest digest
is_deed_within deed.Upgrade = true
is_deed_within (deed.RenewToken party digest) = is_object_number party && is_digest digest
is_deed_within (deed.Accepted caller act) = is_object_number caller && is_act_within act

-- the entry is within its limits
abbrev pub is_within : Entry → Bool
is_within entry = is_day entry.day && is_deed_within entry.deed
