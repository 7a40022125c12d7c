use Rattle.std.proofs.Common.{◌≡◌, subst, sym}
use Rattle.std.specs.Prelude.{OnOk}
use Rattle.sqlite.specs.State.{HasCleanDisk}
use Rattle.sqlite.specs.Held.{state}
use Rattle.permit_store.specs.Changes.{changed}
use Rattle.permit_sql_rows.specs.Kept.{Shows}
use Rattle.permit_sql.proofs.Calls.{commit_counted, held_after}
use Rattle.permit_sql_statements.proofs.Leading.{upgrade_stays}
use Rattle.permit_sql.proofs.store.SqlStoreStore.commit.Goals as goal

pub returns-clause-made : goal.returns-clause-made
returns-clause-made g c t held fits =
    let s = c.args.self.now in
    let n = c.committed.new.self in
    let e = c.committed.ensures in
    let it = c.commit_in-got.ensures in
    let u = changed t c.args.change.now c.args.day in
    subst (λ x. OnOk x (HasCleanDisk (state g.S.Store n.conn) → (u.upgrade ≡ n.upgrade) × Shows u (state g.S.Store n.conn))) (sym e.same)
    (subst (λ h. OnOk c.commit_in-got.result (HasCleanDisk (state g.S.Store h) → (u.upgrade ≡ n.upgrade) × Shows u (state g.S.Store h))) (sym e.conn)
    (held_after c.commit_in-got.result (state g.S.Store s.conn) (state g.S.Store c.commit_in-got.new.conn) s.upgrade n.upgrade t u
    (upgrade_stays t c.args.change.now c.args.day) e.others.1 it.doubt held (λ clean shows. it.made t clean shows fits)))

pub returns-clause-commit : goal.returns-clause-commit
returns-clause-commit g c =
    let e = c.committed.ensures in
    let it = c.commit_in-got.ensures in
    commit_counted g.S.Store c.args.self.now.conn c.args.self.now.handed e.same e.conn it.kept it.open it.doubt e.others.1 e.others.0 e.failed e.commits

pub returns-clause-crash : goal.returns-clause-crash
returns-clause-crash g c t fits keeps = rw c.committed.ensures.conn (c.commit_in-got.ensures.crash t keeps fits)
