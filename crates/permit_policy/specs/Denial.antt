-- What a decision denies.
use Rattle.std.specs.Prelude.{ℕ, if◌then◌else◌, List, Option, None, Some}
use Rattle.permit_model.specs.Policy.{Decision, is_allow}

-- the rule that denies, or None where the decision allows
abbrev pub denied : Decision → Option (List ℕ)
denied d = if is_allow d.effect then None else Some d.rule
