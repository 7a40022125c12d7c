-- Why each rule up to the one that decides matches or doesn't.
use Rattle.std.specs.Prelude.{ℕ, Bool, if◌then◌else◌, List, [], ◌∷◌, Option, None, Some}
use Rattle.permit_model.specs.Codes.{is_role, is_action, is_stage, is_timing}
use Rattle.permit_model.specs.Facts.{Facts}
use Rattle.permit_model.specs.Policy.{RelationTest, Any, OneOf, Both, Rule, Policy, matches, matches_list, matches_relations, matches_truth}
use Rattle.permit_policy.specs.declared.key.Key.{Key}
use Rattle.permit_policy.specs.declared.key.Key.TheVariants as key

-- the key under which a rule asks for two relations at once, or for one
abbrev pub relation_key : RelationTest → Key
relation_key Any = key.Relation
relation_key (OneOf words) = key.Relation
relation_key (Both first second) = key.Both

-- the first of two keys that fail
abbrev pub or_else : Option Key → Option Key → Option Key
or_else None second = second
or_else (Some first) second = Some first

-- the key, where its condition doesn't hold
abbrev pub unless : Bool → Key → Option Key
unless holds key = if holds then None else Some key

-- the first key whose condition doesn't hold, in the order role, relation, both, action, stage, timing, stopped
abbrev pub failing_key : Rule → Facts → Option Key
failing_key rule facts =
    or_else (unless (matches_list rule.role (is_role facts.role)) key.Role)
    (or_else (unless (matches_relations rule.relation facts.relations) (relation_key rule.relation))
    (or_else (unless (matches_list rule.action (is_action facts.action)) key.Action)
    (or_else (unless (matches_list rule.stage (is_stage facts.stage)) key.Stage)
    (or_else (unless (matches_list rule.timing (is_timing facts.timing)) key.Timing)
    (unless (matches_truth rule.stopped facts.stopped) key.Stopped)))))

-- a rule's name, and its first failing key, or None where it matches
pub record Tried : Type 0 where
  pub rule : List ℕ
  pub failing : Option Key

-- each rule up to the first that matches, or all where none does
abbrev pub explanation : Policy → Facts → List Tried
explanation [] facts = []
explanation (rule ∷ rules) facts =
    record { rule = rule.name; failing = failing_key rule facts } ∷ (if matches rule facts then [] else explanation rules facts)
