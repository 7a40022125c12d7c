use Rattle.std.proofs.Common.{◌≡◌, ◌++◌, map, take}
use Rattle.permit_sql_statements.specs.Written.{lent, written}
use Rattle.permit_sql_statements.proofs.lending.lend_step.Given as goal

-- the statements so far
abbrev pub invariant-statements : goal.invariant-statements
invariant-statements l = map lent l.all.items ≡ map lent l.initial.all.items ++ map written (take l.statement-index l.step.statements.items)
