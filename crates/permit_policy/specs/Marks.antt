-- What a pass over facts marks of the rules that decide.
use Rattle.std.specs.Prelude.{◌≡◌, ◌⊎◌, ℕ, Bool, true, false, List, slice_index_or, Some}
use Rattle.permit_base.specs.declared.words.Role.{Role}
use Rattle.permit_base.specs.declared.words.Action.{Action}
use Rattle.permit_model.specs.Facts.{Facts}
use Rattle.permit_model.specs.Policy.{Policy}
use Rattle.permit_model.specs.Opened.{Cell}
use Rattle.permit_policy.specs.Dead.{deciding, IsLive}

-- whether the rule at a place is marked
abbrev pub is_marked : List Bool → ℕ → Bool
is_marked marks place = slice_index_or marks place false

-- Each mark was there before, or is at a rule that decides for some facts. Each rule that decides for facts that were seen is
-- marked.
pub record Marks (policy : Policy) (seen : Facts → Type 0) (old new : List Bool) : Type 0 where
  pub kept : (place : ℕ) → is_marked old place ≡ true → is_marked new place ≡ true
  pub sound : (place : ℕ) → is_marked new place ≡ true → (is_marked old place ≡ true) ⊎ IsLive policy place
  pub whole : (facts : Facts) → seen facts → (place : ℕ) → deciding policy facts ≡ Some place → is_marked new place ≡ true

-- the cell of some facts
abbrev pub cell_of_facts : Facts → Cell
cell_of_facts facts = record { stage = facts.stage; stopped = facts.stopped; timing = facts.timing }

-- the facts of the role and the action in the cell
abbrev pub IsIn : Role → Action → Cell → Facts → Type 0
IsIn role action cell facts = (facts.role ≡ role) × (facts.action ≡ action) × (cell_of_facts facts ≡ cell)

-- the facts of the role and the action
abbrev pub IsOf : Role → Action → Facts → Type 0
IsOf role action facts = (facts.role ≡ role) × (facts.action ≡ action)

-- the facts of the role
abbrev pub HasRole : Role → Facts → Type 0
HasRole role facts = facts.role ≡ role
