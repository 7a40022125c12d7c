use Rattle.std.proofs.Common.{◌≡◌, ◌+◌, ◌++◌, drop, map}
use Rattle.std.specs.List.{position_from}
use Rattle.toml.specs.View.{view}
use Rattle.permit_policy.specs.PolicyText.{has_bad_list, rule_of, first_place}
use Rattle.permit_policy.proofs.text.read_rules.Given as goal

-- the tables that are left have the first fault, and the rules that are missing
abbrev pub invariant-loop-i : goal.invariant-loop-i
invariant-loop-i l = record {
  found : position_from has_bad_list (l.i + 1) (map view (drop l.i l.tables)) ≡ first_place has_bad_list (map view l.tables);
  missing : l.rules.items ++ map rule_of (map view (drop l.i l.tables)) ≡ map rule_of (map view l.tables);
}
