-- Who may do what under a policy.
use Rattle.std.specs.Prelude.{◌≡◌, true, false, List, count_by, All, AllPairs}
use Rattle.permit_base.specs.declared.words.Action.{Action}
use Rattle.permit_base.specs.declared.words.Role.{Role}
use Rattle.permit_base.specs.declared.words.Role.TheVariants as role
use Rattle.permit_base.specs.declared.words.Relations.{Relations}
use Rattle.permit_model.specs.Opened.{Cell, Allowed, allowed_by}
use Rattle.permit_model.specs.Policy.{Policy}
use Rattle.permit_policy.specs.Masks.{only_where}
use Rattle.permit_policy.specs.Regions.{is_within, joins}
use Rattle.permit_policy.specs.Groups.{HasFacts}
use Rattle.permit_policy.specs.declared.access.Access.{Access}
use Rattle.permit_policy.specs.declared.access.Access.TheVariants as access
use Rattle.permit_policy.specs.declared.access.Row.{Row}
use Rattle.permit_policy.specs.declared.region.Region.{Region}

-- everything is allowed
abbrev pub IsFull : Allowed → Type 0
IsFull allowed = (cell : Cell) (set : Relations) → allowed cell set ≡ true

-- nothing is
abbrev pub IsEmpty : Allowed → Type 0
IsEmpty allowed = (cell : Cell) (set : Relations) → allowed cell set ≡ false

-- what is allowed is in one of the regions, and nothing else in any. Each has facts, and no two could be one.
pub record AreAllowed (allowed : Allowed) (regions : List Region) : Type 0 where
  pub once : (cell : Cell) (set : Relations) → count_by (λ region. is_within region cell set) regions ≡ only_where (allowed cell set) 1
  pub full : All HasFacts regions
  pub apart : AllPairs (λ a b. joins a b ≡ false) regions

-- everything is allowed, nothing, or neither and what is in the regions
abbrev pub TellsAccess : Allowed → Access → Type 0
TellsAccess allowed access.Always = IsFull allowed
TellsAccess allowed access.Never = IsEmpty allowed
TellsAccess allowed (access.Where regions) = (IsFull allowed → ⊥) × (IsEmpty allowed → ⊥) × AreAllowed allowed regions.items

-- what a role may do of a row
abbrev pub access_of : Row → Role → Access
access_of row role.Public = row.public
access_of row role.Clerk = row.clerk
access_of row role.Reviewer = row.reviewer
access_of row role.Inspector = row.inspector
access_of row role.Official = row.official

-- the row says what the policy lets each role do by the action
abbrev pub TellsRow : Policy → Row → Type 0
TellsRow policy row = (who : Role) → TellsAccess (allowed_by policy who row.action) (access_of row who)

-- what is done
abbrev pub action_of : Row → Action
action_of row = row.action
