use Rattle.std.proofs.Common.{subst, ap, sym, length, ◌∙◌, arith}
use Rattle.sqlite.specs.State.{HasCleanDisk}
use Rattle.sqlite.specs.Held.{state}
use Rattle.permit_store.specs.Handing.{selected_after}
use Rattle.permit_sql.proofs.Calls.{read_counted}
use Rattle.permit_sql.proofs.store.SqlStoreStore.select.Goals as goal

pub returns-clause-found : goal.returns-clause-found
returns-clause-found g c sure t held =
    let it = c.select_found-got.ensures in
    let clean = subst (λ h. HasCleanDisk (state g.S.Store h)) c.selected.ensures.conn sure in
    let was = held (omega (arith, it.read.doubt, clean)) in
    rw c.selected.ensures.same (it.found t clean was.1 was.0)

pub returns-clause-read : goal.returns-clause-read
returns-clause-read g c =
    let s = c.args.self.now in
    let e = c.selected.ensures in
    let it = c.select_found-got.ensures in
    read_counted g.S.Store s.handed it.read e.same e.conn e.others.1 (e.handed ∙ ap (λ x. selected_after (λ v. length v.items) x s.handed) (sym e.same)) e.failed e.others.0

pub returns-clause-crash : goal.returns-clause-crash
returns-clause-crash g c t keeps = rw c.selected.ensures.conn (c.select_found-got.ensures.read.crash t keeps)
