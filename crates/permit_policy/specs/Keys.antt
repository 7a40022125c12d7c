-- The spellings of a rule's keys.
use Rattle.std.specs.Prelude.{ℕ, List, [], ◌∷◌, codes}
use Rattle.permit_policy.specs.declared.key.Key.{Key}
use Rattle.permit_policy.specs.declared.key.Key.TheVariants as key

-- the spelling of a key
abbrev pub key_word : Key → List ℕ
key_word key.Role = codes "role"
key_word key.Relation = codes "relation"
key_word key.Both = codes "both"
key_word key.Action = codes "action"
key_word key.Stage = codes "stage"
key_word key.Timing = codes "timing"
key_word key.Stopped = codes "stopped"

-- each key once, in the order in which they are tested
abbrev pub all_keys : List Key
all_keys = key.Role ∷ key.Relation ∷ key.Both ∷ key.Action ∷ key.Stage ∷ key.Timing ∷ key.Stopped ∷ []
