use Rattle.std.proofs.Common.{Result, Ok, Err, sym, subst}
use Rattle.std.specs.Prelude.{IfOk}
use Rattle.permit_sql_statements.specs.Changing.{Lead}
use Rattle.permit_store.specs.Changes.{changed}
use Rattle.permit_sql_statements.proofs.Leading.{lead_change}
use Rattle.permit_sql.proofs.store.SqlStoreBatching.change_step.Goals as goal

weaker : {T E : Type 0} {P Q : T → Type 0} (r : Result T E) → ((x : T) → P x → Q x) → IfOk r P → IfOk r Q
weaker (Ok x) f p = f x p
weaker (Err e) f p = tt

pub returns : goal.returns
returns g c t is fits =
    let after = changed t c.args.change.now c.args.day in
    weaker c.change_step.result (λ step written. subst (λ l. Lead g.S.Store l t after) (sym written)
    (lead_change g.S.Store t c.args.change.now c.args.day c.change_step.ensures.named fits)) (c.change_step.ensures.written t is)
