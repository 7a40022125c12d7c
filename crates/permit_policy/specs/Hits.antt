-- Which sets of relations each rule hits, as masks.
use Rattle.std.specs.Prelude.{◌≡◌, Bool, ◌&&◌, ℕ, ◌<◌, List, length, slice_index, slice_index_or}
use Rattle.permit_base.specs.declared.words.Role.{Role}
use Rattle.permit_base.specs.declared.words.Action.{Action}
use Rattle.permit_base.specs.declared.words.Relations.{Relations}
use Rattle.permit_model.specs.Codes.{is_role, is_action, is_stage, is_timing}
use Rattle.permit_model.specs.Policy.{Rule, Policy, matches_list, matches_relations, matches_truth}
use Rattle.permit_model.specs.Opened.{Cell}
use Rattle.permit_policy.specs.Masks.{has_set}

-- the rule may match for the role and the action
abbrev pub is_for : Rule → Role → Action → Bool
is_for rule role action = matches_list rule.role (is_role role) && matches_list rule.action (is_action action)

-- the rule may match in the cell
abbrev pub covers : Rule → Cell → Bool
covers rule cell = matches_list rule.stage (is_stage cell.stage) && matches_list rule.timing (is_timing cell.timing) && matches_truth rule.stopped cell.stopped

-- the mask holds the sets of relations that the rule matches for the role and the action
abbrev pub IsHit : Role → Action → Rule → ℕ → Type 0
IsHit role action rule mask = (set : Relations) → has_set mask set ≡ (is_for rule role action && matches_relations rule.relation set)

-- the same of each rule, in order
pub record AreHits (role : Role) (action : Action) (rules : Policy) (masks : List ℕ) : Type 0 where
  pub count : length masks ≡ length rules
  pub each : (k : ℕ) → k < length rules → (rule : Rule) → rule ≡ slice_index_or rules k rule → IsHit role action rule (slice_index masks k)
