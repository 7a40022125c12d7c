use Rattle.std.proofs.Common.{◌≡◌, subst, sym}
use Rattle.std.specs.Prelude.{OnOk}
use Rattle.std.specs.List.{flat_map}
use Rattle.sqlite.specs.State.{HasCleanDisk}
use Rattle.sqlite.specs.Held.{state}
use Rattle.sqlite.proofs.StateLemmas.{survives_weaker}
use Rattle.permit_sql_rows.specs.Kept.{Shows}
use Rattle.permit_sql_statements.specs.Written.{written_in}
use Rattle.permit_sql_statements.proofs.Leading.{lead_all}
use Rattle.permit_sql.proofs.Calls.{commit_counted, held_after}
use Rattle.permit_sql.proofs.Stepping.{lead_through}
use Rattle.permit_sql.proofs.store.SqlStoreBatching.commit_all.Goals as goal

pub returns-clause-made : goal.returns-clause-made
returns-clause-made g c t u leads held =
    let s = c.args.self.now in
    let n = c.committed.new.self in
    let e = c.committed.ensures in
    let it = c.run_steps-got.ensures in
    let lead = lead_through g.S.Store c.args.steps.now t u leads in
    let all = flat_map written_in c.args.steps.now in
    subst (λ x. OnOk x (HasCleanDisk (state g.S.Store n.conn) → (u.upgrade ≡ n.upgrade) × Shows u (state g.S.Store n.conn))) (sym e.same)
    (subst (λ h. OnOk c.run_steps-got.result (HasCleanDisk (state g.S.Store h) → (u.upgrade ≡ n.upgrade) × Shows u (state g.S.Store h))) (sym e.conn)
    (held_after c.run_steps-got.result (state g.S.Store s.conn) (state g.S.Store c.run_steps-got.new.conn) s.upgrade n.upgrade t u lead.upgrade e.others.1 it.doubt held
    (λ clean shows. it.made t u clean shows (λ k db ran. lead_all g.S.Store all t u lead s.conn db k ran))))

pub returns-clause-commit : goal.returns-clause-commit
returns-clause-commit g c =
    let e = c.committed.ensures in
    let it = c.run_steps-got.ensures in
    commit_counted g.S.Store c.args.self.now.conn c.args.self.now.handed e.same e.conn it.kept it.opened it.doubt e.others.1 e.others.0 e.failed e.commits

pub returns-clause-crash : goal.returns-clause-crash
returns-clause-crash g c t u leads keeps =
    let s = c.args.self.now in
    let lead = lead_through g.S.Store c.args.steps.now t u leads in
    let all = flat_map written_in c.args.steps.now in
    rw c.committed.ensures.conn (survives_weaker (state g.S.Store s.conn) (state g.S.Store c.run_steps-got.new.conn) _ _
    (λ clean trees h. (h.0, lead_all g.S.Store all t u lead s.conn h.0 keeps h.1, h.2)) c.run_steps-got.ensures.crash)
