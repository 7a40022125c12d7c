use Rattle.std.proofs.Common.{◌≡◌, map, take}
use Rattle.permit_sql_statements.specs.TextAndParams.{text_and_params}
use Rattle.permit_sql_statements.specs.Written.{lent}
use Rattle.permit_sql_statements.proofs.lending.stated.Given as goal

-- the statements so far
abbrev pub invariant-lent : goal.invariant-lent
invariant-lent l = map text_and_params l.statements.items ≡ map lent (take l.statement-index l.all)
