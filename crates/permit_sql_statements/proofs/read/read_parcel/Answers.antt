use Rattle.std.proofs.Common.{◌∙◌, ap, slice_get}
use Rattle.permit_sql_statements.proofs.ReadLemmas.{got_same}
use Rattle.permit_sql_statements.proofs.read.read_parcel.Goals as goal

pub returns-clause-found : goal.returns-clause-found
returns-clause-found g c t clean there =
    got_same c.got.result c.first_parcel.result _ c.got.ensures (c.first_parcel.ensures.read _ (ap (λ l. slice_get l 0) c.deref.ensures.value ∙ c.in_ok-rows.ensures.found t clean there))
