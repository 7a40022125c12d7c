-- What the text of a history says of the history: its entries, with a token's digest in place of the token.
use Rattle.std.specs.Prelude.{ℕ, List, Option, None, Some, option_map}
use Rattle.permit_base.specs.declared.request.Request.{Request}
use Rattle.permit_base.specs.declared.request.Request.TheVariants.{AddParty, AddParcel, Transfer, Declare, ReadParcel, File, ReadFile, ListFiles, Register}
use Rattle.permit_base.specs.declared.request.Request.TheVariants.{OnFile}
use Rattle.permit_base.specs.Digests.{digest_of}
use Rattle.permit_model.specs.History as model
use Rattle.permit_model.specs.History.{Founding, Upgrade, Accepted, History}
use Rattle.permit_model.specs.Search.{in_order}
use Rattle.permit_history.specs.declared.entry.Act.{Act}
use Rattle.permit_history.specs.declared.entry.Act.TheVariants as act
use Rattle.permit_history.specs.declared.entry.Deed.{Deed}
use Rattle.permit_history.specs.declared.entry.Deed.TheVariants as deed
use Rattle.permit_history.specs.declared.entry.Entry.{Entry}

-- an accepted request, with the number of what it made: nothing is said of one that only reads
abbrev pub act_told : Request → Option ℕ → Option Act
act_told (AddParty name role token) made = option_map (act.AddParty name role (digest_of token)) made
act_told (AddParcel lot address owner) made = option_map (act.AddParcel lot address owner) made
act_told (Transfer parcel to) made = Some (act.Transfer parcel to)
act_told (Declare parcel) made = Some (act.Declare parcel)
act_told (File parcel kind valuation description) made = option_map (act.File parcel kind valuation description) made
act_told (OnFile file command) made = Some (act.OnFile file command made)
act_told (ReadParcel parcel) made = None
act_told (ReadFile file) made = None
act_told (ListFiles filter) made = None
act_told (Register kind) made = None

-- what was done, by the caller of the entry and with its number
abbrev pub deed_told : ℕ → Option ℕ → model.Deed → Option Deed
deed_told caller made (Founding name digest) = Some (deed.Found name digest)
deed_told caller made Upgrade = Some deed.Upgrade
deed_told caller made (Accepted request) = option_map (deed.Accepted caller) (act_told request made)

abbrev pub told_on : ℕ → Deed → Entry
told_on day done = record { day = day; deed = done }

-- an entry of a history, as its text has it
abbrev pub told : model.Entry → Option Entry
told entry = option_map (told_on entry.day) (deed_told entry.caller entry.number entry.deed)

-- the entries of a history, as its text has them: the oldest first
abbrev pub told_history : History → List Entry
told_history h = in_order told h
