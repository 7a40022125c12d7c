use Rattle.std.proofs.Common.{sym, subst, Result, Ok, Err, OnOk}
use Rattle.std.proofs.lemmas.Result.{on_ok_weaker}
use Rattle.sqlite.specs.Held.{state}
use Rattle.sqlite.proofs.StateLemmas.{survives_weaker}
use Rattle.permit_model.specs.Renewal.{with_renewed}
use Rattle.permit_sql_rows.specs.Kept.{Keeps}
use Rattle.permit_sql_statements.proofs.Renewing.{renewal_made}
use Rattle.permit_sql_statements.proofs.renew.renew_in.Goals as goal

join : {T E P Q R : Type 0} (r : Result T E) → OnOk r P → OnOk r Q → (P → Q → R) → OnOk r R
join (Ok x) p q f = f p q
join (Err e) p q f = tt

pub returns-clause-made : goal.returns-clause-made
returns-clause-made g c clean t none k =
    let a = c.args in
    join c.set_digest.result (c.set_digest.ensures.shown clean) (on_ok_weaker c.set_digest.result
    (λ h. renewal_made g.S.Store a.conn.now _ t k a.party a.digest.now none (rw (c.params-to_sql.ensures, c.params-to_sql-2.ensures, c.as_str.ensures.same) at h))
    (c.set_digest.ensures.all clean))
    (λ same h. subst (Keeps (with_renewed a.party a.digest.now t)) (sym same) h)

pub returns-clause-crash : goal.returns-clause-crash
returns-clause-crash g c =
    let a = c.args in
    survives_weaker (state g.S.Store a.conn.now) (state g.S.Store c.set_digest.new.conn) _ _
    (λ clean trees h t none k. (
      h.0,
      renewal_made g.S.Store a.conn.now h.0 t k a.party a.digest.now none (rw (c.params-to_sql.ensures, c.params-to_sql-2.ensures, c.as_str.ensures.same) at h.1),
      h.2,
    ))
    c.set_digest.ensures.crash
