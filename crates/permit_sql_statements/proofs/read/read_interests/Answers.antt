use Rattle.std.proofs.Common.{sym, subst, ◌∙◌}
use Rattle.std.specs.Prelude.{IsPermutation}
use Rattle.std.proofs.lemmas.Result.{IfOk-weaker}
use Rattle.permit_sql_statements.proofs.read.read_interests.Goals as goal

pub returns-clause-found : goal.returns-clause-found
returns-clause-found g c t clean there =
    let it = c.in_ok-rows.ensures.found t clean there in
    IfOk-weaker c.all_interests.result _ _ (λ v same. subst (λ l. IsPermutation l t.interests) (sym same) it.2)
    (c.all_interests.ensures it.0 (c.deref.ensures.value ∙ it.1))
