use Rattle.std.proofs.Common.{Result, Ok, Err, sym, subst}
use Rattle.std.specs.Prelude.{IfOk}
use Rattle.permit_sql_statements.specs.Changing.{Lead}
use Rattle.permit_model.specs.Renewal.{with_renewed}
use Rattle.permit_sql_statements.proofs.Leading.{lead_renewal}
use Rattle.permit_sql.proofs.store.SqlStoreBatching.renewal_step.Goals as goal

weaker : {T E : Type 0} {P Q : T → Type 0} (r : Result T E) → ((x : T) → P x → Q x) → IfOk r P → IfOk r Q
weaker (Ok x) f p = f x p
weaker (Err e) f p = tt

pub returns : goal.returns
returns g c t none =
    let after = with_renewed c.args.party c.args.digest.now t in
    weaker c.renewal_step.result (λ step written. subst (λ l. Lead g.S.Store l t after) (sym written)
    (lead_renewal g.S.Store t c.args.party c.args.digest.now none)) c.renewal_step.ensures
