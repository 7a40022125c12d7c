-- The statement that runs in one transaction is the renewal that it makes.
use Rattle.std.proofs.Common.{ℕ, List, [], ◌∷◌, Result}
use Rattle.sqlite.specs.declared.types.Value.TheVariants.{Text}
use Rattle.sqlite_trees.specs.declared.store.Store.{Ghosts}
use Rattle.sqlite.specs.Held.{Held, state}
use Rattle.sqlite.proofs.StateLemmas.{survives_weaker}
use Rattle.permit_model.specs.Renewal.{with_renewed}
use Rattle.permit_sql_rows.specs.Rows.{int}
use Rattle.permit_sql_statements.specs.Frames.{IsRun}
use Rattle.permit_sql_statements.specs.Renewing.{IsRenewal, renewal_statements}
use Rattle.permit_sql_statements.proofs.Renewing.{renewal_made}

pub renewed_by : {S A E : Type 0} (g : Ghosts S) (party : ℕ) (digest : List ℕ) {old new : Held S} {r : Result A E} →
    IsRun g (renewal_statements (int party ∷ Text digest ∷ [])) old new r → IsRenewal g party digest old new r
renewed_by g party digest {old} {new} run = record {
  made = λ t clean shows none. run.made t (with_renewed party digest t) clean shows
      (λ k db ran. renewal_made g old db t k party digest none ran);
  kept = run.kept;
  opened = run.opened;
  doubt = run.doubt;
  crash = survives_weaker (state g old) (state g new) _ _
      (λ clean trees h t none k. (h.0, renewal_made g old h.0 t k party digest none h.1, h.2)) run.crash;
}
