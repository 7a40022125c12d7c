-- Which entries are wanted.
use Rattle.std.specs.Prelude.{ℕ, ◌==◌, nat_le, Bool, true, false, ◌&&◌, ◌||◌, Option, None, Some}
use Rattle.permit_base.specs.declared.request.Command.{Command}
use Rattle.permit_base.specs.declared.request.Command.TheVariants as command
use Rattle.permit_history.specs.declared.entry.Act.{Act}
use Rattle.permit_history.specs.declared.entry.Act.TheVariants as act
use Rattle.permit_history.specs.declared.entry.Deed.{Deed}
use Rattle.permit_history.specs.declared.entry.Deed.TheVariants as deed
use Rattle.permit_history.specs.declared.entry.Entry.{Entry}
use Rattle.permit_chronicle.specs.declared.wanted.Wanted.{Wanted}

-- ---- files

abbrev pub act_has_file : ℕ → Act → Bool
act_has_file n (act.AddParty name role digest made) = false
act_has_file n (act.AddParcel lot address owner made) = false
act_has_file n (act.Transfer parcel to) = false
act_has_file n (act.Declare parcel) = false
act_has_file n (act.File parcel kind valuation description made) = made == n
act_has_file n (act.OnFile file command made) = file == n

-- whether the file of this number was made, or something was done to it
abbrev pub has_file : ℕ → Deed → Bool
has_file n (deed.Begin tables) = false
has_file n (deed.Found name digest) = false
has_file n deed.Upgrade = false
has_file n (deed.RenewToken party digest) = false
has_file n (deed.Accepted caller act) = act_has_file n act

-- ---- parcels

abbrev pub act_has_parcel : ℕ → Act → Bool
act_has_parcel n (act.AddParty name role digest made) = false
act_has_parcel n (act.AddParcel lot address owner made) = made == n
act_has_parcel n (act.Transfer parcel to) = parcel == n
act_has_parcel n (act.Declare parcel) = parcel == n
act_has_parcel n (act.File parcel kind valuation description made) = parcel == n
act_has_parcel n (act.OnFile file command made) = false

-- whether the parcel of this number was made, given away, declared or built on
abbrev pub has_parcel : ℕ → Deed → Bool
has_parcel n (deed.Begin tables) = false
has_parcel n (deed.Found name digest) = false
has_parcel n deed.Upgrade = false
has_parcel n (deed.RenewToken party digest) = false
has_parcel n (deed.Accepted caller act) = act_has_parcel n act

-- ---- parties

abbrev pub command_has_party : ℕ → Command → Bool
command_has_party n (command.AssignReviewer party) = party == n
command_has_party n (command.AssignInspector party) = party == n
command_has_party n (command.NameContractor party) = party == n
command_has_party n command.StartReview = false
command_has_party n (command.Return text) = false
command_has_party n (command.Resubmit text) = false
command_has_party n command.ApprovePlans = false
command_has_party n (command.Reject text) = false
command_has_party n command.Issue = false
command_has_party n (command.AskExtension days text) = false
command_has_party n command.GrantExtension = false
command_has_party n (command.RefuseExtension text) = false
command_has_party n command.BeginWork = false
command_has_party n (command.RequestInspection step) = false
command_has_party n (command.ApproveStep step) = false
command_has_party n (command.Notice text) = false
command_has_party n (command.ClearNotice paper) = false
command_has_party n (command.Stop text conditions) = false
command_has_party n command.Lift = false
command_has_party n (command.Revoke text) = false
command_has_party n (command.Temporary days text) = false
command_has_party n command.Certify = false

abbrev pub act_has_party : ℕ → Act → Bool
act_has_party n (act.AddParty name role digest made) = made == n
act_has_party n (act.AddParcel lot address owner made) = owner == n
act_has_party n (act.Transfer parcel to) = to == n
act_has_party n (act.Declare parcel) = false
act_has_party n (act.File parcel kind valuation description made) = false
act_has_party n (act.OnFile file command made) = command_has_party n command

-- whether the party of this number did it, or is named in it
abbrev pub has_party : ℕ → Deed → Bool
has_party n (deed.Begin tables) = false
has_party n (deed.Found name digest) = 1 == n
has_party n deed.Upgrade = false
has_party n (deed.RenewToken party digest) = party == n
has_party n (deed.Accepted caller act) = (caller == n) || act_has_party n act

-- ---- together

-- what is asked for holds, where it is asked for
abbrev pub where_asked : (ℕ → Bool) → Option ℕ → Bool
where_asked holds None = true
where_asked holds (Some n) = holds n

-- whether an entry is wanted: all that is asked for holds of it
abbrev pub is_wanted : Wanted → Entry → Bool
is_wanted wanted entry =
    where_asked (λ day. nat_le day entry.day) wanted.since && (where_asked (λ n. has_file n entry.deed) wanted.file
    && (where_asked (λ n. has_parcel n entry.deed) wanted.parcel && where_asked (λ n. has_party n entry.deed) wanted.party))
