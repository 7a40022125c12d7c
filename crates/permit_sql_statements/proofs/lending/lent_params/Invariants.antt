use Rattle.std.proofs.Common.{◌≡◌, map, take}
use Rattle.sqlite.specs.Values.{bound, bound_value}
use Rattle.permit_sql_statements.proofs.lending.lent_params.Given as goal

-- the values so far
abbrev pub invariant-params : goal.invariant-params
invariant-params l = bound l.values.items ≡ map bound_value (take l.at l.params)
