-- Statements that are written down.
use Rattle.std.specs.Prelude.{◌≡◌, ◌++◌, List, map, OnOk, Result}
use Rattle.sqlite.specs.Values.{bound, bound_value}
use Rattle.permit_sql_statements.specs.Statements.{Statement}
use Rattle.permit_sql_statements.specs.declared.lending.Lent.{Lent}
use Rattle.permit_sql_statements.specs.declared.step.Step.{Step}
use Rattle.permit_sql_statements.specs.declared.step.Written.{Written}

abbrev pub written : Written → Statement
written s = (s.text.now, map bound_value s.params)

-- the statements of a step
abbrev pub written_in : Step → List Statement
written_in step = map written step.statements.items

-- with its parameters lent
abbrev pub lent : Lent → Statement
lent s = (s.text.now, bound s.params.items)

-- After a success the step has these statements more.
abbrev pub Writes : {A E : Type 0} → List Statement → Step → Step → Result A E → Type 0
Writes statements old new result = OnOk result (written_in new ≡ written_in old ++ statements)
