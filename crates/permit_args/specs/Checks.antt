-- What is printed of a policy.
use Rattle.std.specs.Prelude.{◌≡◌, ℕ, List, [], ◌∷◌, ◌++◌, length, Option, None, Some, codes, decimal}
use Rattle.permit_base.specs.Words.{effect_word}
use Rattle.permit_model.specs.Policy.{Policy, Decision}
use Rattle.permit_policy.specs.Dead.{AreDead}
use Rattle.permit_policy.specs.Explained.{Tried}
use Rattle.permit_policy.specs.Keys.{key_word}
use Rattle.permit_policy.specs.declared.key.Key.{Key}

-- how many rules it has
abbrev pub rules_line : ℕ → List ℕ
rules_line count = codes "rules " ++ decimal count ++ codes "\n"

-- a line for each dead rule
abbrev pub dead_lines : List (List ℕ) → List ℕ
dead_lines [] = []
dead_lines (name ∷ names) = codes "dead " ++ name ++ codes "\n" ++ dead_lines names

-- the text is the count of the rules and the names of the dead ones, in their order
abbrev pub TellsDead : Policy → List ℕ → Type 0
TellsDead policy text = (names : List (List ℕ)) × AreDead policy names × (text ≡ rules_line (length policy) ++ dead_lines names)

-- whether a rule matches, or the first key that doesn't
abbrev pub tried_word : Option Key → List ℕ
tried_word None = codes "match"
tried_word (Some key) = key_word key

-- a line for each rule that was tried
abbrev pub tried_lines : List Tried → List ℕ
tried_lines [] = []
tried_lines (tried ∷ more) = tried.rule ++ codes " " ++ tried_word tried.failing ++ codes "\n" ++ tried_lines more

-- what is decided, and by which rule
abbrev pub decided_line : Decision → List ℕ
decided_line decision = codes "decided " ++ decision.rule ++ codes " " ++ effect_word decision.effect ++ codes "\n"
