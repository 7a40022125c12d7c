use Rattle.std.proofs.Common.{[], ◌∷◌, sym, subst, Result, Ok, Err, OnOk}
use Rattle.std.proofs.lemmas.Result.{on_ok_weaker}
use Rattle.sqlite.specs.Held.{state}
use Rattle.sqlite.proofs.StateLemmas.{survives_weaker}
use Rattle.permit_model.specs.Tables.{with_upgrade}
use Rattle.permit_sql_rows.specs.Rows.{int}
use Rattle.permit_sql_rows.specs.Kept.{Keeps}
use Rattle.permit_sql_statements.specs.Founding.{upgrade_statements}
use Rattle.permit_sql_statements.specs.Statements.{RanAll}
use Rattle.permit_sql_statements.proofs.Creating.{upgrade_made}
use Rattle.permit_sql_statements.proofs.create.upgrade_in.Goals as goal

join : {T E P Q R : Type 0} (r : Result T E) → OnOk r P → OnOk r Q → (P → Q → R) → OnOk r R
join (Ok x) p q f = f p q
join (Err e) p q f = tt

pub returns-clause-made : goal.returns-clause-made
returns-clause-made g c clean t files low k =
    let a = c.args in
    join c.upgraded.result (c.upgraded.ensures.shown clean) (on_ok_weaker c.upgraded.result
    (λ h. upgrade_made g.S.Store a.conn.now _ t k low
    (subst (λ n. RanAll g.S.Store (upgrade_statements (int n ∷ [])) a.conn.now (state g.S.Store c.upgraded.new.conn).committed) (sym files) (rw (c.params-to_sql.ensures) at h)))
    (c.upgraded.ensures.all clean))
    (λ same h. subst (Keeps (with_upgrade t)) (sym same) h)

pub returns-clause-crash : goal.returns-clause-crash
returns-clause-crash g c =
    let a = c.args in
    survives_weaker (state g.S.Store a.conn.now) (state g.S.Store c.upgraded.new.conn) _ _
    (λ clean trees h t files low k. (
      h.0,
      upgrade_made g.S.Store a.conn.now h.0 t k low
          (subst (λ n. RanAll g.S.Store (upgrade_statements (int n ∷ [])) a.conn.now h.0) (sym files) (rw (c.params-to_sql.ensures) at h.1)),
      h.2,
    ))
    c.upgraded.ensures.crash
