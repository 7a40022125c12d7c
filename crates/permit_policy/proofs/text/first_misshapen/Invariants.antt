use Rattle.std.proofs.Common.{◌≡◌, ◌+◌, drop, map}
use Rattle.std.specs.List.{position_from}
use Rattle.toml.specs.View.{view}
use Rattle.permit_policy.specs.PolicyText.{is_misshapen, first_place}
use Rattle.permit_policy.proofs.text.first_misshapen.Given as goal

-- the items that are left have the first fault
abbrev pub invariant-loop-i : goal.invariant-loop-i
invariant-loop-i l = position_from is_misshapen (l.i + 1) (map view (drop l.i l.tables)) ≡ first_place is_misshapen (map view l.tables)
