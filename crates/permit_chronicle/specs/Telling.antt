-- The lines of the entries of a text that are wanted.
use Rattle.std.specs.Prelude.{◌≡◌, ◌⊎◌, ◌≤◌, ◌^◌, ℕ, ◌+◌, if◌then◌else◌, List, [], ◌∷◌, ◌++◌, length, replicate, slice_get, slice_set, Option, None, Some, unwrap_or, Err}
use Rattle.std.specs.Io.KnownBytes.{Appends}
use Rattle.permit_base.specs.declared.words.Role.{Role}
use Rattle.permit_base.specs.declared.words.Role.TheVariants.{Official}
use Rattle.permit_base.specs.Limits.{most_records}
use Rattle.permit_history.specs.declared.entry.Act.TheVariants as act
use Rattle.permit_history.specs.declared.entry.Deed.{Deed}
use Rattle.permit_history.specs.declared.entry.Deed.TheVariants as deed
use Rattle.permit_history.specs.declared.entry.Entry.{Entry}
use Rattle.permit_history.specs.LineData.{caller_in}
use Rattle.permit_history.specs.Text.{next_line, AnswersLine, GivesInTurn}
use Rattle.permit_report.specs.Outgoing.{WroteFront}
use Rattle.permit_chronicle.specs.declared.fault.ChronicleFault.{ChronicleFault}
use Rattle.permit_chronicle.specs.declared.fault.ChronicleFault.TheVariants as fault
use Rattle.permit_chronicle.specs.declared.wanted.Wanted.{Wanted}
use Rattle.permit_chronicle.specs.Lines.{line}
use Rattle.permit_chronicle.specs.Wanted.{is_wanted}

-- the roles of the parties, by their numbers, of which no entry has given one yet
unfoldable pub no_roles : List (Option Role)
no_roles = replicate (most_records + 1) None

-- the role of a party, where an entry gave it
abbrev pub role_of : List (Option Role) → ℕ → Option Role
role_of roles party = unwrap_or (slice_get roles party) None

-- the roles with the one that an entry gives: the founder is an official
abbrev pub roles_with : List (Option Role) → Deed → List (Option Role)
roles_with roles (deed.Begin tables) = roles
roles_with roles (deed.Found name digest) = slice_set roles 1 (Some Official)
roles_with roles deed.Upgrade = roles
roles_with roles (deed.RenewToken party digest) = roles
roles_with roles (deed.Accepted caller (act.AddParty name role digest made)) = slice_set roles made (Some role)
roles_with roles (deed.Accepted caller (act.AddParcel lot address owner made)) = roles
roles_with roles (deed.Accepted caller (act.Transfer parcel to)) = roles
roles_with roles (deed.Accepted caller (act.Declare parcel)) = roles
roles_with roles (deed.Accepted caller (act.File parcel kind valuation description made)) = roles
roles_with roles (deed.Accepted caller (act.OnFile file command made)) = roles

-- what an entry adds: its line, where it is wanted
unfoldable pub part : Wanted → List (Option Role) → Entry → List ℕ
part wanted roles entry = if is_wanted wanted entry then line (role_of roles (caller_in entry.deed)) entry else []

-- the lines of the entries that are wanted, the oldest first
abbrev pub told_from : Wanted → List (Option Role) → List Entry → List ℕ
told_from wanted roles [] = []
told_from wanted roles (entry ∷ later) = part wanted roles entry ++ told_from wanted (roles_with roles entry.deed) later

-- known bytes grew by the lines of some entries, of those that are wanted
abbrev pub WritesLines : Wanted → List (Option Role) → Option (List ℕ) → Option (List ℕ) → Type 0
WritesLines wanted roles old new = (entries : List Entry) × Appends old new (told_from wanted roles entries)

-- they grew by such lines, or by a prefix of such
abbrev pub WritesSome : Wanted → List (Option Role) → Option (List ℕ) → Option (List ℕ) → Type 0
WritesSome wanted roles old new =
    (entries : List Entry) × (Appends old new (told_from wanted roles entries) ⊎ WroteFront old new (told_from wanted roles entries))

-- ---- where it ends

-- these are the first entries of the text, and known bytes grew by their lines
pub record HasTold (wanted : Wanted) (roles : List (Option Role)) (bytes : List ℕ) (entries : List Entry) (left : List ℕ) (old new : Option (List ℕ)) : Type 0 where
  pub given : GivesInTurn bytes entries left
  pub written : Appends old new (told_from wanted roles entries)

-- the text is printed whole: no line is left after its entries
abbrev pub IsTold : Wanted → List (Option Role) → List ℕ → Option (List ℕ) → Option (List ℕ) → Type 0
IsTold wanted roles bytes old new =
    (entries : List Entry) × (left : List ℕ) × HasTold wanted roles bytes entries left old new × (next_line left ≡ None)

-- Printing a text stops at the lowest line that is no entry's, or at a failure. The lines of the entries before it are written.
-- Where a write failed, a prefix of the next line is. A text that is said to have no end begins with so many entries that the next
-- lines have no number of 64 bits.
abbrev pub StopsAt : Wanted → List (Option Role) → List ℕ → Option (List ℕ) → Option (List ℕ) → ChronicleFault → Type 0
StopsAt wanted roles bytes old new (fault.Line line why) =
    (entries : List Entry) × (left : List ℕ) × HasTold wanted roles bytes entries left old new × (line ≡ length entries + 1)
    × AnswersLine (Err why) (next_line left)
StopsAt wanted roles bytes old new (fault.Source error) = (entries : List Entry) × (left : List ℕ) × HasTold wanted roles bytes entries left old new
StopsAt wanted roles bytes old new fault.Output =
    (entries : List Entry) × (left : List ℕ) × GivesInTurn bytes entries left × WroteFront old new (told_from wanted roles entries)
StopsAt wanted roles bytes old new fault.Memory = (entries : List Entry) × (left : List ℕ) × HasTold wanted roles bytes entries left old new
StopsAt wanted roles bytes old new fault.Endless =
    (entries : List Entry) × (left : List ℕ) × HasTold wanted roles bytes entries left old new × (2 ^ 64 ≤ length entries + 2)
