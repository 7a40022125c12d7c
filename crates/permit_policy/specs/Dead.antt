-- The rules of a policy that decide for no facts.
use Rattle.std.specs.Prelude.{◌≡◌, ◌⊎◌, ℕ, ◌+◌, List, [], ◌∷◌, Option, Some}
use Rattle.std.specs.List.{position_from}
use Rattle.permit_model.specs.Facts.{Facts}
use Rattle.permit_model.specs.Policy.{Rule, Policy, matches}

-- the place, from 0, of the rule that decides, if one matches
abbrev pub deciding : Policy → Facts → Option ℕ
deciding policy facts = position_from (λ rule. matches rule facts) 0 policy

-- the rule at the place decides for some facts
abbrev pub IsLive : Policy → ℕ → Type 0
IsLive policy place = (facts : Facts) × (deciding policy facts ≡ Some place)

-- the rule at the place decides for no facts
abbrev pub IsDead : Policy → ℕ → Type 0
IsDead policy place = (facts : Facts) → deciding policy facts ≡ Some place → ⊥

-- these are the names of the dead rules among those from the place on, in order
abbrev pub AreDeadFrom : Policy → ℕ → List Rule → List (List ℕ) → Type 0
AreDeadFrom policy place [] names = names ≡ []
AreDeadFrom policy place (rule ∷ rules) names =
    (IsLive policy place × AreDeadFrom policy (place + 1) rules names)
    ⊎ (IsDead policy place × ((rest : List (List ℕ)) × (names ≡ rule.name ∷ rest) × AreDeadFrom policy (place + 1) rules rest))

-- these are the names of the dead rules, in order
abbrev pub AreDead : Policy → List (List ℕ) → Type 0
AreDead policy names = AreDeadFrom policy 0 policy names
