-- What each key of a rule takes.
use Rattle.std.specs.Prelude.{ℕ, List, [], ◌∷◌, ◌++◌, codes, map}
use Rattle.permit_base.specs.Words.{role_word, all_roles, stage_word, all_stages, timing_word, all_timings, relation_word, all_relations}
use Rattle.permit_base.specs.Words.{action_word, all_actions, effect_word, all_effects}
use Rattle.permit_reasons.specs.declared.key.ListKey.{ListKey}
use Rattle.permit_reasons.specs.declared.key.ListKey.TheVariants as key

-- the words in order: `one, two or three`
abbrev pub either : List (List ℕ) → List ℕ
either [] = []
either (word ∷ []) = word
either (word ∷ last ∷ []) = word ++ codes " or " ++ last
either (word ∷ next ∷ more ∷ words) = word ++ codes ", " ++ either (next ∷ more ∷ words)

-- the key of a condition that is a list of words
abbrev pub key_word : ListKey → List ℕ
key_word key.Role = codes "role"
key_word key.Relation = codes "relation"
key_word key.Both = codes "both"
key_word key.Action = codes "action"
key_word key.Stage = codes "stage"
key_word key.Timing = codes "timing"

-- the words that it takes, each of them
abbrev pub taken : ListKey → List ℕ
taken key.Role = either (map role_word all_roles)
taken key.Relation = either (map relation_word all_relations)
taken key.Both = either (map relation_word all_relations)
taken key.Action = either (map action_word all_actions)
taken key.Stage = either (map stage_word all_stages)
taken key.Timing = either (map timing_word all_timings)

abbrev pub effects_taken : List ℕ
effects_taken = either (map effect_word all_effects)

abbrev pub name_taken : List ℕ
name_taken = codes "1 to 32 of a-z, 0-9 and -"
