use Rattle.std.proofs.Common.{◌≡◌, sym, subst, arith}
use Rattle.sqlite.specs.State.{HasCleanDisk}
use Rattle.sqlite.specs.Held.{state}
use Rattle.permit_store.specs.Renewing.{Renews}
use Rattle.permit_sql_rows.specs.Kept.{Shows}
use Rattle.permit_sql.proofs.Renewing.{renews_held}
use Rattle.permit_sql.proofs.store.SqlStoreRenewing.renew.Goals as goal

pub returns-clause-renewed : goal.returns-clause-renewed
returns-clause-renewed g c = λ doubt t held.
    let s = c.args.self.now in
    let n = c.counted.new.self in
    let e = c.counted.ensures in
    let it = c.renew_over-got.ensures in
    let p = c.args.party in
    let d = c.args.digest.now in
    let after = c.renew_over-got.new.conn in
    let clean : HasCleanDisk (state g.S.Store after) = subst (λ h. HasCleanDisk (state g.S.Store h)) e.conn doubt in
    let was = held (omega (arith, it.doubt, clean)) in
    subst (λ x. Renews (λ u. HasCleanDisk (state g.S.Store n.conn) → (u.upgrade ≡ n.upgrade) × Shows u (state g.S.Store n.conn)) p d t x) (sym e.same)
    (subst (λ h. Renews (λ u. HasCleanDisk (state g.S.Store h) → (u.upgrade ≡ n.upgrade) × Shows u (state g.S.Store h)) p d t c.renew_over-got.result) (sym e.conn)
    (renews_held (state g.S.Store after) s.upgrade n.upgrade p d t c.renew_over-got.result was.0 e.others.2 (it.renewed t clean was.1)))
