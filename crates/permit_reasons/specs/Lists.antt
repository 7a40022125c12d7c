-- What is wrong with a condition's list of words.
use Rattle.std.specs.Prelude.{ℕ, Bool, not, ◌==◌, if◌then◌else◌, List, [], ◌∷◌, ◌++◌, codes, decimal, length, Option, None, Some, is_some}
use Rattle.std.specs.List.{find}
use Rattle.std.specs.Option.{option_or}
use Rattle.toml.specs.Data.{Data}
use Rattle.permit_policy.specs.PolicyText.{action_named, is_among, relation_named, role_named, stage_named, texts_at, timing_named}
use Rattle.permit_reasons.specs.Shown.{quoted}
use Rattle.permit_reasons.specs.Takes.{key_word, taken}
use Rattle.permit_reasons.specs.declared.key.ListKey.{ListKey}
use Rattle.permit_reasons.specs.declared.key.ListKey.TheVariants as key

-- the text spells a word that the key takes
abbrev pub is_taken : ListKey → List ℕ → Bool
is_taken key.Role text = is_some (role_named text)
is_taken key.Relation text = is_some (relation_named text)
is_taken key.Both text = is_some (relation_named text)
is_taken key.Action text = is_some (action_named text)
is_taken key.Stage text = is_some (stage_named text)
is_taken key.Timing text = is_some (timing_named text)

-- the first text that comes again
abbrev pub repeated : List (List ℕ) → Option (List ℕ)
repeated [] = None
repeated (text ∷ texts) = if is_among texts text then Some text else repeated texts

-- the key takes lists of this length
abbrev pub is_of_length : ListKey → ℕ → Bool
is_of_length key.Both count = count == 2
is_of_length other count = not (count == 0)

abbrev pub length_taken : ListKey → List ℕ
length_taken key.Both = codes "two words of "
length_taken other = codes "one word or more of "

-- what is wrong with texts of which each is a word
abbrev pub repeat_fault : ListKey → Option (List ℕ) → Option (List ℕ)
repeat_fault at None = None
repeat_fault at (Some text) = Some (key_word at ++ codes " " ++ quoted text ++ codes ": each word once")

-- what is wrong with the texts of a list of that length
abbrev pub word_fault : ListKey → List (List ℕ) → Option (List ℕ) → Option (List ℕ)
word_fault at texts (Some unknown) = Some (key_word at ++ codes " " ++ quoted unknown ++ codes ": " ++ taken at)
word_fault at texts None = repeat_fault at (repeated texts)

-- what is wrong with a list, if anything is
abbrev pub list_fault : ListKey → Option (List (List ℕ)) → Option (List ℕ)
list_fault at None = None
list_fault at (Some texts) =
    if is_of_length at (length texts) then word_fault at texts (find (λ t. not (is_taken at t)) texts)
    else Some (key_word at ++ codes " has " ++ decimal (length texts) ++ codes " words: " ++ length_taken at ++ taken at)

-- what is wrong with the first list in which anything is
abbrev pub first_list_fault : Data → List ListKey → Option (List ℕ)
first_list_fault entry [] = None
first_list_fault entry (at ∷ keys) = option_or (list_fault at (texts_at (key_word at) entry)) (first_list_fault entry keys)
