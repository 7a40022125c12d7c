-- Histories of what the types of the program hold: texts, amounts and days within their limits.
use Rattle.std.specs.Prelude.{Bool, true, ◌&&◌, IsTrue}
use Rattle.std.specs.List.{list_all}
use Rattle.permit_base.specs.declared.request.Command.{Command}
use Rattle.permit_base.specs.declared.request.Command.TheVariants.{AssignReviewer, AssignInspector, NameContractor, StartReview, Return, Resubmit, ApprovePlans}
use Rattle.permit_base.specs.declared.request.Command.TheVariants.{Reject, Issue, AskExtension, GrantExtension, RefuseExtension, BeginWork, RequestInspection}
use Rattle.permit_base.specs.declared.request.Command.TheVariants.{ApproveStep, Notice, ClearNotice, Stop, Lift, Revoke, Temporary, Certify}
use Rattle.permit_base.specs.declared.request.Request.{Request}
use Rattle.permit_base.specs.declared.request.Request.TheVariants.{AddParty, AddParcel, Transfer, Declare, ReadParcel, File, ReadFile, ListFiles, Register}
use Rattle.permit_base.specs.declared.request.Request.TheVariants.{OnFile}
use Rattle.permit_base.specs.Limits.{is_cents, is_days}
use Rattle.permit_base.specs.Texts.{is_printable, is_lot, is_digest}
use Rattle.permit_model.specs.History.{Deed, Founding, Upgrade, Accepted, History}

-- the texts and days of a command
abbrev pub is_command_within : Command → Bool
is_command_within (Return text) = is_printable text
is_command_within (Resubmit text) = is_printable text
is_command_within (Reject text) = is_printable text
is_command_within (AskExtension days text) = is_days days && is_printable text
is_command_within (RefuseExtension text) = is_printable text
is_command_within (Notice text) = is_printable text
is_command_within (Stop text conditions) = is_printable text && is_printable conditions
is_command_within (Revoke text) = is_printable text
is_command_within (Temporary days text) = is_days days && is_printable text
is_command_within (AssignReviewer party) = true
is_command_within (AssignInspector party) = true
is_command_within (NameContractor party) = true
is_command_within StartReview = true
is_command_within ApprovePlans = true
is_command_within Issue = true
is_command_within GrantExtension = true
is_command_within BeginWork = true
is_command_within (RequestInspection step) = true
is_command_within (ApproveStep step) = true
is_command_within (ClearNotice paper) = true
is_command_within Lift = true
is_command_within Certify = true

-- the texts, days and amount of a request
abbrev pub is_request_within : Request → Bool
is_request_within (AddParty name role token) = is_printable name
is_request_within (AddParcel lot address owner) = is_lot lot && is_printable address
is_request_within (File parcel kind valuation description) = is_cents valuation && is_printable description
is_request_within (OnFile file command) = is_command_within command
is_request_within (Transfer parcel to) = true
is_request_within (Declare parcel) = true
is_request_within (ReadParcel parcel) = true
is_request_within (ReadFile file) = true
is_request_within (ListFiles filter) = true
is_request_within (Register kind) = true

-- the texts, days and amount of a deed
abbrev pub is_deed_within : Deed → Bool
is_deed_within (Founding name digest) = is_printable name && is_digest digest
is_deed_within Upgrade = true
is_deed_within (Accepted request) = is_request_within request

-- all that was done is within the limits; of the days of the entries it says nothing
abbrev pub AreWithinLimits : History → Type 0
AreWithinLimits h = IsTrue (list_all (λ entry. is_deed_within entry.deed) h)
