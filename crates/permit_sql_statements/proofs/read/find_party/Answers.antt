use Rattle.std.proofs.Common.{◌∙◌, ap, slice_get}
use Rattle.permit_sql_statements.proofs.ReadLemmas.{got_same}
use Rattle.permit_sql_statements.proofs.read.find_party.Goals as goal

pub returns-clause-found : goal.returns-clause-found
returns-clause-found g c t clean there =
    got_same c.got.result c.first_party.result _ c.got.ensures (c.first_party.ensures.read _ (ap (λ l. slice_get l 0) c.deref.ensures.value ∙ c.in_ok-rows.ensures.found t clean there))
