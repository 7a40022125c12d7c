use Rattle.std.proofs.Common.{◌∙◌, ap, eqb, find, slice_get, subst}
use Rattle.std.specs.Prelude.{IfSome}
use Rattle.permit_sql_rows.specs.Kept.{IsNamed}
use Rattle.permit_sql_statements.proofs.ReadLemmas.{got_same}
use Rattle.permit_sql_statements.proofs.read.read_file.Goals as goal

pub returns-clause-found : goal.returns-clause-found
returns-clause-found g c t clean there same =
    got_same c.got.result c.first_file.result _ c.got.ensures (c.first_file.ensures.read _
    (subst (λ u. IfSome (find (λ f. eqb f.id c.args.file) t.files) (λ f. IsNamed u f.id f.state)) same (c.in_ok-rows.ensures.named t clean there))
    (ap (λ l. slice_get l 0) c.deref.ensures.value ∙ c.in_ok-rows.ensures.found t clean there))
