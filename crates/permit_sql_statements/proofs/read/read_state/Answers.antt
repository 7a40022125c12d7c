use Rattle.std.proofs.Common.{◌∙◌, ap, eqb, find, slice_get, subst}
use Rattle.std.specs.Prelude.{IfSome}
use Rattle.permit_sql_rows.specs.Kept.{IsNamed}
use Rattle.permit_sql_statements.proofs.read.read_state.Goals as goal

pub returns-clause-found : goal.returns-clause-found
returns-clause-found g c t clean there same = c.first_state.ensures.read _
    (subst (λ u. IfSome (find (λ f. eqb f.id c.args.file) t.files) (λ f. IsNamed u f.id f.state)) same (c.in_ok-rows.ensures.named t clean there))
    (ap (λ l. slice_get l 0) c.deref.ensures.value ∙ c.in_ok-rows.ensures.found t clean there)
