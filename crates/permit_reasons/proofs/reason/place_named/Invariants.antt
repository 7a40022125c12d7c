use Rattle.std.proofs.Common.{◌≡◌, ◌+◌, bytes_eq, drop, map}
use Rattle.std.specs.List.{position_from}
use Rattle.toml.specs.View.{view}
use Rattle.permit_policy.specs.PolicyText.{first_place, name_of}
use Rattle.permit_reasons.proofs.reason.place_named.Given as goal

-- the rules that are left have the first of the name
abbrev pub invariant-loop-i : goal.invariant-loop-i
invariant-loop-i l =
    position_from (λ t. bytes_eq l.name (name_of t)) (l.i + 1) (map view (drop l.i l.tables)) ≡ first_place (λ t. bytes_eq l.name (name_of t)) (map view l.tables)
