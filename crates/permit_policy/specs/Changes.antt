-- What one policy decides differently from another.
use Rattle.std.specs.Prelude.{◌≡◌, ℕ, ◌&&◌, List, map, sum_by, All, AllPairs}
use Rattle.std.specs.List.{flat_map}
use Rattle.permit_base.specs.Words.{all_roles, all_actions}
use Rattle.permit_base.specs.declared.words.Role.{Role}
use Rattle.permit_base.specs.declared.words.Action.{Action}
use Rattle.permit_base.specs.declared.words.Relations.{Relations}
use Rattle.permit_model.specs.Opened.{Cell}
use Rattle.permit_model.specs.Policy.{Policy}
use Rattle.permit_policy.specs.Masks.{only_where, has_set}
use Rattle.permit_policy.specs.Groups.{differ, held, AllHaveFacts, Decided, GathersIn, IsApart, Tells}
use Rattle.permit_policy.specs.Shares.{decided_for, TellsShare}
use Rattle.permit_policy.specs.declared.changes.Changes.{Changes}
use Rattle.permit_policy.specs.declared.groups.Group.{Group}
use Rattle.permit_policy.specs.declared.shares.Share.{Share}

-- Of all facts of a role and an action these groups have those that one policy allows and the other denies, each once. Each group has
-- facts, and says what the policies decide for them. No two could be one.
pub record AreDifferences (by was : Decided) (groups : List Group) : Type 0 where
  pub once : (cell : Cell) (set : Relations) → held groups cell set ≡ only_where (differ (by cell set) (was cell set)) 1
  pub told : All (Tells by was) groups
  pub full : AllHaveFacts groups
  pub apart : AllPairs IsApart groups

-- the role and the action
abbrev pub request_of : Changes → Role × Action
request_of changes = (changes.role, changes.action)

-- each role with each action, in the order of their tables
abbrev pub all_requests : List (Role × Action)
all_requests = flat_map (λ role. map (λ action. (role, action)) all_actions) all_roles

-- the groups are what the policy decides differently from the other for the role and the action
abbrev pub IsChanged : Policy → Policy → Changes → Type 0
IsChanged policy other changes =
    AreDifferences (decided_for policy changes.role changes.action) (decided_for other changes.role changes.action) changes.groups.items

-- ---- by shares

-- 1 where both shares have the set and are decided differently
abbrev pub in_both : Share → Relations → Share → ℕ
in_both by set was = only_where (differ by.decision was.decision && (has_set by.sets set && has_set was.sets set)) 1

-- how often the set is in a share and one of the others, in a cell
abbrev pub in_others : Share → List Share → Relations → ℕ
in_others by was set = sum_by (in_both by set) was

-- one more share, with what it has in common with the others
abbrev pub GathersShare : Cell → Share → List Share → List Group → List Group → Type 0
GathersShare here by was = GathersIn here (in_others by was) (λ now before. TellsShare (now here) by × All (TellsShare (before here)) was)

-- how often the set is in one of the shares and one of the others
abbrev pub in_pairs : List Share → List Share → Relations → ℕ
in_pairs by was set = sum_by (λ share. in_others share was set) by

-- the same of several shares
abbrev pub GathersPairs : Cell → List Share → List Share → List Group → List Group → Type 0
GathersPairs here by was = GathersIn here (in_pairs by was) (λ now before. All (TellsShare (now here)) by × All (TellsShare (before here)) was)
