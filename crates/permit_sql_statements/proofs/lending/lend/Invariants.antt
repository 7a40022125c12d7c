use Rattle.std.proofs.Common.{◌≡◌, map, take}
use Rattle.std.specs.List.{flat_map}
use Rattle.permit_sql_statements.specs.Written.{lent, written_in}
use Rattle.permit_sql_statements.proofs.lending.lend.Given as goal

-- the statements of the steps so far
abbrev pub invariant-steps : goal.invariant-steps
invariant-steps l = map lent l.all.items ≡ flat_map written_in (take l.step-index l.steps)
