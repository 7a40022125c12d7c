-- A policy is a list of rules, of which the first that matches decides.
use Rattle.std.specs.Prelude.{ℕ, Bool, true, false, ◌&&◌, not, if◌then◌else◌, List, [], ◌∷◌, Option, None, Some, codes}
use Rattle.std.specs.List.{list_any}
use Rattle.permit_base.specs.declared.words.Role.{Role}
use Rattle.permit_base.specs.declared.words.Stage.{Stage}
use Rattle.permit_base.specs.declared.words.Timing.{Timing}
use Rattle.permit_base.specs.declared.words.Relation.{Relation}
use Rattle.permit_base.specs.declared.words.Relations.{Relations}
use Rattle.permit_base.specs.declared.words.Action.{Action}
use Rattle.permit_base.specs.declared.words.Effect.{Effect}
use Rattle.permit_base.specs.declared.words.Effect.TheVariants.{Allow, Deny}
use Rattle.permit_model.specs.Codes.{is_role, is_action, is_stage, is_timing}
use Rattle.permit_model.specs.Facts.{Facts, holds}

-- what a rule asks of the caller's relations: nothing, one of these at least, or both of two
pub data RelationTest : Type 0 where
  Any : RelationTest
  OneOf : (words : List Relation) → RelationTest
  Both : (first second : Relation) → RelationTest

-- a key that isn't there is None
pub record Rule : Type 0 where
  pub name : List ℕ
  pub effect : Effect
  pub role : Option (List Role)
  pub relation : RelationTest
  pub action : Option (List Action)
  pub stage : Option (List Stage)
  pub timing : Option (List Timing)
  pub stopped : Option Bool

-- the rules in the order written
abbrev pub Policy : Type 0
Policy = List Rule

-- a key that isn't there matches all, and a list matches where one of its words holds
abbrev pub matches_list : {A : Type 0} → Option (List A) → (A → Bool) → Bool
matches_list None test = true
matches_list (Some words) test = list_any test words

-- a key that isn't there matches both, else the truth value has to be the same
abbrev pub matches_truth : Option Bool → Bool → Bool
matches_truth None value = true
matches_truth (Some wanted) value = if wanted then value else not value

-- whether the set of relations passes
abbrev pub matches_relations : RelationTest → Relations → Bool
matches_relations Any set = true
matches_relations (OneOf words) set = list_any (holds set) words
matches_relations (Both first second) set = holds set first && holds set second

-- all keys of the rule match
abbrev pub matches : Rule → Facts → Bool
matches rule facts =
    matches_list rule.role (is_role facts.role)
    && matches_relations rule.relation facts.relations
    && matches_list rule.action (is_action facts.action)
    && matches_list rule.stage (is_stage facts.stage)
    && matches_list rule.timing (is_timing facts.timing)
    && matches_truth rule.stopped facts.stopped

-- the effect, and the name of the rule that decides
pub record Decision : Type 0 where
  pub effect : Effect
  pub rule : List ℕ

-- where no rule matches
abbrev pub default_denial : Decision
default_denial = record { effect = Deny; rule = codes "default" }

-- the effect of the first rule that matches, with its name
abbrev pub decision : Policy → Facts → Decision
decision [] facts = default_denial
decision (rule ∷ rules) facts = if matches rule facts then record { effect = rule.effect; rule = rule.name } else decision rules facts

-- whether the effect is to allow
abbrev pub is_allow : Effect → Bool
is_allow Allow = true
is_allow Deny = false

-- whether the policy allows
abbrev pub allows : Policy → Facts → Bool
allows policy facts = is_allow (decision policy facts).effect
