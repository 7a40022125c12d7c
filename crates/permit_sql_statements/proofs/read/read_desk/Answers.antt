use Rattle.std.proofs.Common.{◌∙◌}
use Rattle.permit_sql_statements.proofs.read.read_desk.Goals as goal

pub returns-clause-found : goal.returns-clause-found
returns-clause-found g c t clean there = c.first_desk.ensures.read t.desk (c.deref.ensures.value ∙ c.in_ok-rows.ensures.found t clean there)
