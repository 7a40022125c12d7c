-- The line of an entry for a person: the day, who it was, what was done, and about what.
use Rattle.std.specs.Prelude.{ℕ, ◌==◌, if◌then◌else◌, List, [], ◌∷◌, ◌++◌, codes, decimal, Option, None, Some}
use Rattle.permit_base.specs.declared.words.Role.{Role}
use Rattle.permit_base.specs.declared.request.Command.{Command}
use Rattle.permit_base.specs.declared.request.Command.TheVariants as command
use Rattle.permit_base.specs.Words.{role_word, kind_word, step_word}
use Rattle.permit_report.specs.Dates.{shown_date}
use Rattle.permit_history.specs.declared.entry.Act.{Act}
use Rattle.permit_history.specs.declared.entry.Act.TheVariants as act
use Rattle.permit_history.specs.declared.entry.Deed.{Deed}
use Rattle.permit_history.specs.declared.entry.Deed.TheVariants as deed
use Rattle.permit_history.specs.declared.entry.Entry.{Entry}
use Rattle.permit_history.specs.LineData.{caller_in, done_word}

-- a word after a space
abbrev pub spaced : List ℕ → List ℕ
spaced text = codes " " ++ text

-- a word and a number, each after a space
abbrev pub counted : List ℕ → ℕ → List ℕ
counted name n = spaced name ++ spaced (decimal n)

-- the number of a paper that was made, if one was
abbrev pub paper_made : Option ℕ → List ℕ
paper_made None = []
paper_made (Some n) = counted (codes "paper") n

-- what a command on a file names beside the file
abbrev pub about_command : Command → List ℕ
about_command (command.AssignReviewer party) = counted (codes "party") party
about_command (command.AssignInspector party) = counted (codes "party") party
about_command (command.NameContractor party) = counted (codes "party") party
about_command command.StartReview = []
about_command (command.Return text) = []
about_command (command.Resubmit text) = []
about_command command.ApprovePlans = []
about_command (command.Reject text) = []
about_command command.Issue = []
about_command (command.AskExtension days text) = counted (codes "days") days
about_command command.GrantExtension = []
about_command (command.RefuseExtension text) = []
about_command command.BeginWork = []
about_command (command.RequestInspection step) = spaced (step_word step)
about_command (command.ApproveStep step) = spaced (step_word step)
about_command (command.Notice text) = []
about_command (command.ClearNotice paper) = counted (codes "paper") paper
about_command (command.Stop text conditions) = []
about_command command.Lift = []
about_command (command.Revoke text) = []
about_command (command.Temporary days text) = counted (codes "days") days
about_command command.Certify = []

-- what an accepted command made, or was done to
abbrev pub about_act : Act → List ℕ
about_act (act.AddParty name role digest made) = counted (codes "party") made ++ spaced (role_word role)
about_act (act.AddParcel lot address owner made) = counted (codes "parcel") made ++ counted (codes "party") owner
about_act (act.Transfer parcel to) = counted (codes "parcel") parcel ++ counted (codes "party") to
about_act (act.Declare parcel) = counted (codes "parcel") parcel
about_act (act.File parcel kind valuation description made) =
    counted (codes "file") made ++ (counted (codes "parcel") parcel ++ spaced (kind_word kind))
about_act (act.OnFile file command made) = counted (codes "file") file ++ (about_command command ++ paper_made made)

-- what an entry is about; the founder is party 1
abbrev pub about : Deed → List ℕ
about (deed.Begin tables) = []
about (deed.Found name digest) = counted (codes "party") 1
about deed.Upgrade = []
about (deed.RenewToken party digest) = counted (codes "party") party
about (deed.Accepted caller act) = about_act act

-- the word for a role, or for a party whose role no entry gives
abbrev pub role_or_party : Option Role → List ℕ
role_or_party None = codes "party"
role_or_party (Some role) = role_word role

-- who it was: the role and the number, or a hyphen where it is no command
abbrev pub who : Option Role → ℕ → List ℕ
who role caller = if caller == 0 then codes "-" else role_or_party role ++ spaced (decimal caller)

-- who it was, what was done and about what
unfoldable pub told : Option Role → Deed → List ℕ
told role done = spaced (who role (caller_in done)) ++ (spaced (done_word done) ++ about done)

-- the line of an entry by a caller of this role
unfoldable pub line : Option Role → Entry → List ℕ
line role entry = shown_date entry.day ++ (told role entry.deed ++ 10 ∷ [])
