use Rattle.std.proofs.Common.{subst, arith}
use Rattle.sqlite.specs.State.{HasCleanDisk}
use Rattle.sqlite.specs.Held.{state}
use Rattle.permit_sql.proofs.Calls.{read_counted}
use Rattle.permit_sql.proofs.store.SqlStoreStore.desk.Goals as goal

pub returns-clause-found : goal.returns-clause-found
returns-clause-found g c sure t held =
    let it = c.read_desk-got.ensures in
    let clean = subst (λ h. HasCleanDisk (state g.S.Store h)) c.counted_first.ensures.conn sure in
    rw c.counted_first.ensures.same (it.found t clean (held (omega (arith, it.read.doubt, clean))).1)

pub returns-clause-read : goal.returns-clause-read
returns-clause-read g c =
    let e = c.counted_first.ensures in
    let it = c.read_desk-got.ensures in
    read_counted g.S.Store c.args.self.now.handed it.read e.same e.conn e.others.2 e.others.0 e.failed e.others.1

pub returns-clause-crash : goal.returns-clause-crash
returns-clause-crash g c t keeps = rw c.counted_first.ensures.conn (c.read_desk-got.ensures.read.crash t keeps)
