use Rattle.std.proofs.Common.{◌≡◌, ◌+◌, ◌++◌, drop, map}
use Rattle.toml.specs.View.{view}
use Rattle.permit_policy.specs.PolicyText.{first_bad_name, bad_name_place, name_of}
use Rattle.permit_policy.proofs.text.read_names.Given as goal

-- the tables that are left have the first fault, and the names that are missing
abbrev pub invariant-loop-i : goal.invariant-loop-i
invariant-loop-i l = record {
  found : first_bad_name (l.i + 1) l.names.items (map name_of (map view (drop l.i l.tables))) ≡ bad_name_place (map view l.tables);
  missing : l.names.items ++ map name_of (map view (drop l.i l.tables)) ≡ map name_of (map view l.tables);
}
