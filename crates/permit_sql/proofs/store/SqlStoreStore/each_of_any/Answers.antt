use Rattle.std.proofs.Common.{subst, ◌∙◌, arith}
use Rattle.sqlite.specs.State.{HasCleanDisk}
use Rattle.sqlite.specs.Held.{state}
use Rattle.permit_sql.proofs.Calls.{read_counted}
use Rattle.permit_sql.proofs.store.SqlStoreStore.each_of_any.Goals as goal

pub returns-clause-handed : goal.returns-clause-handed
returns-clause-handed g c =
    let e = c.counted.ensures in
    let it = c.each_of_any_found-took_all.ensures in
    let given = it.handed in (
      given.0,
      record {
        taken = rw e.same given.1;
        read = read_counted g.S.Store c.args.self.now.handed it.read e.same e.conn e.others.2 (e.others.0 ∙ given.2) e.failed e.others.1;
      },
      λ sure t held.
          let clean = subst (λ h. HasCleanDisk (state g.S.Store h)) e.conn sure in
          let was = held (omega (arith, it.read.doubt, clean)) in
          rw e.same (given.3 t clean was.1 was.0),
    )

pub returns-clause-crash : goal.returns-clause-crash
returns-clause-crash g c t keeps = rw c.counted.ensures.conn (c.each_of_any_found-took_all.ensures.read.crash t keeps)
