-- What is wrong with the keys of a rule and the types of their values.
use Rattle.std.specs.Prelude.{ℕ, Bool, not, if◌then◌else◌, List, [], ◌∷◌, ◌++◌, codes, Option, None, Some}
use Rattle.std.specs.List.{find}
use Rattle.toml.specs.Data.{Members, no_members, member}
use Rattle.permit_policy.specs.PolicyText.{has, has_key, is_among, is_list_of_texts, is_text, is_truth, may_have, rule_keys}
use Rattle.permit_reasons.specs.Shown.{quoted}
use Rattle.permit_reasons.specs.Takes.{effects_taken, key_word, name_taken, taken}
use Rattle.permit_reasons.specs.declared.key.ListKey.{ListKey}
use Rattle.permit_reasons.specs.declared.key.ListKey.TheVariants as key

-- the keys in order
abbrev pub keys_in : Members → List (List ℕ)
keys_in no_members = []
keys_in (member key value rest) = key ∷ keys_in rest

-- the first key that isn't one of these
abbrev pub unknown_key : List (List ℕ) → Members → Option (List ℕ)
unknown_key known members = find (λ k. not (is_among known k)) (keys_in members)

-- a key that isn't there
abbrev pub lacks : Members → List ℕ → Bool
lacks members key = not (has_key members key)

-- the first of these keys whose value is another than a list of texts
abbrev pub no_list : Members → List ListKey → Option ListKey
no_list members keys = find (λ k. not (may_have is_list_of_texts members (key_word k))) keys

abbrev pub list_keys : List ListKey
list_keys = key.Role ∷ key.Relation ∷ key.Both ∷ key.Action ∷ key.Stage ∷ key.Timing ∷ []

-- what is wrong where each key is known and `name` and `effect` are texts
abbrev pub condition_shape : Members → Option ListKey → List ℕ
condition_shape entries (Some wrong) = key_word wrong ++ codes " is no list of texts: " ++ taken wrong
condition_shape entries None =
    if not (may_have is_truth entries (codes "stopped")) then codes "stopped: true or false" else codes "relation and both stand in one rule"

-- what is wrong where each key is known
abbrev pub key_shape : Members → List ℕ
key_shape members =
    if lacks members (codes "name") then codes "name missing"
    else (if not (has is_text members (codes "name")) then codes "name is no text: " ++ name_taken
    else (if lacks members (codes "effect") then codes "effect missing: " ++ effects_taken
    else (if not (has is_text members (codes "effect")) then codes "effect is no text: " ++ effects_taken
    else condition_shape members (no_list members list_keys))))

-- what is wrong with a table
abbrev pub table_shape : Members → Option (List ℕ) → List ℕ
table_shape entries (Some key) =
    codes "unknown key " ++ quoted key ++ codes ": a rule has name, effect, role, relation, both, action, stage, timing and stopped"
table_shape entries None = key_shape entries

-- what is wrong with an item of the array `rule`
abbrev pub item_shape : Option Members → List ℕ
item_shape None = codes "no table: [[rule]] begins one"
item_shape (Some entries) = table_shape entries (unknown_key rule_keys entries)
