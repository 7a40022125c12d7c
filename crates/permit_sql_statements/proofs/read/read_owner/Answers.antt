use Rattle.std.proofs.Common.{◌∙◌, ap, slice_get}
use Rattle.permit_sql_statements.proofs.read.read_owner.Goals as goal

pub returns-clause-found : goal.returns-clause-found
returns-clause-found g c t clean there = c.first_owner.ensures.read _ (ap (λ l. slice_get l 0) c.deref.ensures.value ∙ c.in_ok-rows.ensures.found t clean there)
