use Rattle.std.proofs.Common.{subst, ap, sym, ◌∙◌, arith}
use Rattle.sqlite.specs.State.{HasCleanDisk}
use Rattle.sqlite.specs.Held.{state}
use Rattle.permit_store.specs.Counts.{handed_after}
use Rattle.permit_sql.proofs.Calls.{read_counted}
use Rattle.permit_sql.proofs.store.SqlStoreStore.state.Goals as goal

pub returns-clause-found : goal.returns-clause-found
returns-clause-found g c sure t held =
    let it = c.read_state-got.ensures in
    let clean = subst (λ h. HasCleanDisk (state g.S.Store h)) c.looked_up.ensures.conn sure in
    let was = held (omega (arith, it.read.doubt, clean)) in
    rw c.looked_up.ensures.same (it.found t clean was.1 was.0)

pub returns-clause-read : goal.returns-clause-read
returns-clause-read g c =
    let s = c.args.self.now in
    let e = c.looked_up.ensures in
    let it = c.read_state-got.ensures in
    read_counted g.S.Store s.handed it.read e.same e.conn e.others.1 (e.handed ∙ ap (λ x. handed_after x s.handed) (sym e.same)) e.failed e.others.0

pub returns-clause-crash : goal.returns-clause-crash
returns-clause-crash g c t keeps = rw c.looked_up.ensures.conn (c.read_state-got.ensures.read.crash t keeps)
