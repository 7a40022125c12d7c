-- What a policy's text means: its rules, or the lowest fault that applies with the place of the first table that has it.
use Rattle.std.specs.Prelude.{◌⊎◌, ◌≡◌, ℕ, ◌+◌, ◌==◌, Bool, true, false, not, ◌&&◌, ◌||◌, nat_lt, if◌then◌else◌, List, [], ◌∷◌, ◌++◌, length, map, codes}
use Rattle.std.specs.Prelude.{bytes_eq, Option, None, Some, is_some, is_none, option_map, option_and_then, unwrap_or, Result, Ok, Err}
use Rattle.std.specs.List.{list_any, list_all, filter_map, position_from}
use Rattle.toml.specs.Data.{Data, Items, no_items, item, Members, no_members, member, get, get_member, as_str, as_bool, as_array, as_table}
use Rattle.toml.specs.Parse.{parse_document}
use Rattle.permit_base.specs.declared.words.Role.{Role}
use Rattle.permit_base.specs.declared.words.Stage.{Stage}
use Rattle.permit_base.specs.declared.words.Timing.{Timing}
use Rattle.permit_base.specs.declared.words.Relation.{Relation}
use Rattle.permit_base.specs.declared.words.Action.{Action}
use Rattle.permit_base.specs.declared.words.Effect.{Effect}
use Rattle.permit_base.specs.declared.words.Effect.TheVariants.{Deny}
use Rattle.permit_base.specs.Texts.{is_rule_name}
use Rattle.permit_base.specs.Words.{named, role_word, all_roles, stage_word, all_stages, timing_word, all_timings, relation_word, all_relations, action_word}
use Rattle.permit_base.specs.Words.{all_actions, effect_word, all_effects}
use Rattle.permit_model.specs.Policy.{RelationTest, Any, OneOf, Both, Rule, Policy}
use Rattle.permit_policy.specs.declared.fault.PolicyError.{PolicyError}
use Rattle.permit_policy.specs.declared.fault.PolicyFault.{PolicyFault}
use Rattle.permit_policy.specs.declared.fault.PolicyFault.TheVariants as fault

-- ---- what is in a table

-- the items of an array
abbrev pub items_list : Items → List Data
items_list no_items = []
items_list (item value rest) = value ∷ items_list rest

-- whether the text is one of these
abbrev pub is_among : List (List ℕ) → List ℕ → Bool
is_among texts text = list_any (bytes_eq text) texts

-- whether each key is one of these
abbrev pub keys_among : List (List ℕ) → Members → Bool
keys_among keys no_members = true
keys_among keys (member key value rest) = is_among keys key && keys_among keys rest

-- a value's text, empty where it is none
abbrev pub text_of : Data → List ℕ
text_of value = unwrap_or (as_str value) []

-- the text at a key of a table, empty where there is none
abbrev pub text_at : List ℕ → Data → List ℕ
text_at key entry = unwrap_or (option_map text_of (get key entry)) []

-- the texts at a key of a table, or None without the key
abbrev pub texts_at : List ℕ → Data → Option (List (List ℕ))
texts_at key entry = option_map (λ items. map text_of (items_list items)) (option_and_then as_array (get key entry))

-- the truth value at a key of a table, or None without the key
abbrev pub truth_at : List ℕ → Data → Option Bool
truth_at key entry = option_and_then as_bool (get key entry)

-- ---- shape: the keys of a rule, and the type of each value

-- the value is a text
abbrev pub is_text : Data → Bool
is_text value = is_some (as_str value)

-- the value is true or false
abbrev pub is_truth : Data → Bool
is_truth value = is_some (as_bool value)

-- the value is an array of texts alone
abbrev pub is_list_of_texts : Data → Bool
is_list_of_texts value = unwrap_or (option_map (λ items. list_all is_text (items_list items)) (as_array value)) false

-- the key is there, and its value is of the type
abbrev pub has : (Data → Bool) → Members → List ℕ → Bool
has is_typed members key = unwrap_or (option_map is_typed (get_member key members)) false

-- the key isn't there, or its value is of the type
abbrev pub may_have : (Data → Bool) → Members → List ℕ → Bool
may_have is_typed members key = unwrap_or (option_map is_typed (get_member key members)) true

-- the keys that each rule has
abbrev pub text_keys : List (List ℕ)
text_keys = codes "name" ∷ codes "effect" ∷ []

-- the conditions that are lists of words
abbrev pub list_keys : List (List ℕ)
list_keys = codes "role" ∷ codes "relation" ∷ codes "both" ∷ codes "action" ∷ codes "stage" ∷ codes "timing" ∷ []

-- the known keys
abbrev pub rule_keys : List (List ℕ)
rule_keys = text_keys ++ list_keys ++ codes "stopped" ∷ []

-- the key is there
abbrev pub has_key : Members → List ℕ → Bool
has_key members key = is_some (get_member key members)

-- the caller's relations are asked for in two ways
abbrev pub has_both_tests : Members → Bool
has_both_tests members = has_key members (codes "relation") && has_key members (codes "both")

-- known keys, with name and effect among them, each value of its type, and at most one of `relation` and `both`
abbrev pub is_shaped : Members → Bool
is_shaped members =
    keys_among rule_keys members
    && list_all (has is_text members) text_keys
    && list_all (may_have is_list_of_texts members) list_keys
    && may_have is_truth members (codes "stopped")
    && not (has_both_tests members)

-- an item that isn't a table of that shape
abbrev pub is_misshapen : Data → Bool
is_misshapen value = not (unwrap_or (option_map is_shaped (as_table value)) false)

-- the items of the array `rule`, or no items without that key; None where there is another key, or where `rule` isn't an array
abbrev pub tables_in : Members → Option (List Data)
tables_in members =
    if keys_among (codes "rule" ∷ []) members
    then unwrap_or (option_map (λ value. option_map items_list (as_array value)) (get_member (codes "rule") members)) (Some [])
    else None

-- ---- names and effects

-- a name of 1 to 32 small letters, digits and hyphens, neither `default` nor used before
abbrev pub is_new_name : List (List ℕ) → List ℕ → Bool
is_new_name used name = is_rule_name name && not (bytes_eq name (codes "default")) && not (is_among used name)

-- the place of the first name that isn't new after those used
abbrev pub first_bad_name : ℕ → List (List ℕ) → List (List ℕ) → Option ℕ
first_bad_name place used [] = None
first_bad_name place used (name ∷ names) = if is_new_name used name then first_bad_name (place + 1) (used ++ name ∷ []) names else Some place

-- the rule's name
abbrev pub name_of : Data → List ℕ
name_of entry = text_at (codes "name") entry

-- the place, from 1, of the first table whose name is bad
abbrev pub bad_name_place : List Data → Option ℕ
bad_name_place tables = first_bad_name 1 [] (map name_of tables)

-- the effect that a text spells
abbrev pub effect_named : List ℕ → Option Effect
effect_named = named effect_word all_effects

-- neither `allow` nor `deny`
abbrev pub has_bad_effect : Data → Bool
has_bad_effect entry = is_none (effect_named (text_at (codes "effect") entry))

-- the rule's effect, once its word is known
abbrev pub effect_of : Data → Effect
effect_of entry = unwrap_or (effect_named (text_at (codes "effect") entry)) Deny

-- ---- lists of words, each word read by its spelling

-- each text is a word, and none comes twice
abbrev pub are_words : {A : Type 0} → (List ℕ → Option A) → List (List ℕ) → Bool
are_words read [] = true
are_words read (text ∷ texts) = is_some (read text) && not (is_among texts text) && are_words read texts

-- a list that is empty, has an unknown word, or a word twice
abbrev pub is_bad_list : {A : Type 0} → (List ℕ → Option A) → Option (List (List ℕ)) → Bool
is_bad_list read None = false
is_bad_list read (Some []) = true
is_bad_list read (Some (text ∷ texts)) = not (are_words read (text ∷ texts))

-- a list of other than two words, with an unknown word, or with a word twice
abbrev pub is_bad_pair : {A : Type 0} → (List ℕ → Option A) → Option (List (List ℕ)) → Bool
is_bad_pair read None = false
is_bad_pair read (Some texts) = not (length texts == 2 && are_words read texts)

-- the words of a list
abbrev pub words_of : {A : Type 0} → (List ℕ → Option A) → Option (List (List ℕ)) → Option (List A)
words_of read texts = option_map (filter_map read) texts

-- the two words of a list, where they are two
abbrev pub pair_in : {A : Type 0} → Option (List A) → Option (A × A)
pair_in (Some (first ∷ second ∷ [])) = Some (first, second)
pair_in _ = None

-- the role, relation, action, stage and timing that a text spells
abbrev pub role_named : List ℕ → Option Role
role_named = named role_word all_roles

abbrev pub relation_named : List ℕ → Option Relation
relation_named = named relation_word all_relations

abbrev pub action_named : List ℕ → Option Action
action_named = named action_word all_actions

abbrev pub stage_named : List ℕ → Option Stage
stage_named = named stage_word all_stages

abbrev pub timing_named : List ℕ → Option Timing
timing_named = named timing_word all_timings

-- one of the six lists is bad
abbrev pub has_bad_list : Data → Bool
has_bad_list entry =
    is_bad_list role_named (texts_at (codes "role") entry)
    || is_bad_list relation_named (texts_at (codes "relation") entry)
    || is_bad_pair relation_named (texts_at (codes "both") entry)
    || is_bad_list action_named (texts_at (codes "action") entry)
    || is_bad_list stage_named (texts_at (codes "stage") entry)
    || is_bad_list timing_named (texts_at (codes "timing") entry)

-- ---- the meaning

-- what is asked of the caller's relations by the words of `relation` and those of `both`, of which one at most is there
abbrev pub relation_test : Option (List Relation) → Option (Relation × Relation) → RelationTest
relation_test None None = Any
relation_test (Some words) None = OneOf words
relation_test words (Some pair) = Both pair.0 pair.1

-- what a table asks of the caller's relations
abbrev pub relation_test_of : Data → RelationTest
relation_test_of entry =
    relation_test (words_of relation_named (texts_at (codes "relation") entry)) (pair_in (words_of relation_named (texts_at (codes "both") entry)))

-- the rule of a table without a fault
abbrev pub rule_of : Data → Rule
rule_of entry = record {
  name = name_of entry;
  effect = effect_of entry;
  role = words_of role_named (texts_at (codes "role") entry);
  relation = relation_test_of entry;
  action = words_of action_named (texts_at (codes "action") entry);
  stage = words_of stage_named (texts_at (codes "stage") entry);
  timing = words_of timing_named (texts_at (codes "timing") entry);
  stopped = truth_at (codes "stopped") entry;
}

-- the rules, or a fault with its place
abbrev pub Meaning : Type 0
Meaning = Result Policy PolicyError

-- a fault that lies in no table
abbrev pub refused : PolicyFault → Meaning
refused code = Err (record { code = code; rule = 0 })

-- the fault at the place, where there is one, else what follows
abbrev pub refused_at : PolicyFault → Option ℕ → Meaning → Meaning
refused_at code None otherwise = otherwise
refused_at code (Some place) otherwise = Err (record { code = code; rule = place })

-- the place, from 1, of the first table with a fault
abbrev pub first_place : (Data → Bool) → List Data → Option ℕ
first_place has_fault tables = position_from has_fault 1 tables

-- one fault after the other, each over all tables
abbrev pub meaning_of_tables : List Data → Meaning
meaning_of_tables tables =
    refused_at fault.Shape (first_place is_misshapen tables) (
    if nat_lt 64 (length tables) then refused fault.TooMany else
    refused_at fault.Name (bad_name_place tables) (
    refused_at fault.Effect (first_place has_bad_effect tables) (
    refused_at fault.List (first_place has_bad_list tables) (
    Ok (map rule_of tables)))))

-- the meaning of TOML's reading of the text
abbrev pub meaning_of_document : Members → Meaning
meaning_of_document members = unwrap_or (option_map meaning_of_tables (tables_in members)) (refused fault.Shape)

-- the rules of a policy's text, or its fault
abbrev pub meaning : List ℕ → Meaning
meaning text =
    if nat_lt 65536 (length text) then refused fault.TooLong
    else unwrap_or (option_map meaning_of_document (parse_document text)) (refused fault.Unreadable)

-- the answer is the meaning, unless memory ran out
abbrev pub Means : Meaning → Meaning → Type 0
Means answer meaning = (answer ≡ refused fault.Memory) ⊎ (answer ≡ meaning)
