use Rattle.std.proofs.Common.{◌≡◌, map, take}
use Rattle.sqlite.specs.Values.{bound, bound_value}
use Rattle.permit_sql_statements.proofs.step.row_of.Given as goal

-- the values so far
abbrev pub invariant-params : goal.invariant-params
invariant-params l = map bound_value l.row ≡ bound (take l.value-index l.params)
