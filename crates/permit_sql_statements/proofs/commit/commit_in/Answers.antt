use Rattle.std.proofs.Common.{Result, Ok, Err, OnErr, arith}
use Rattle.sqlite.specs.State.{HasCleanDisk}
use Rattle.sqlite.specs.Held.{state}
use Rattle.sqlite.proofs.StateLemmas.{survives_then}
use Rattle.permit_store.specs.Changes.{changed}
use Rattle.permit_sql_statements.proofs.Writing.{step_made}
use Rattle.permit_sql_statements.proofs.commit.commit_in.Goals as goal

on_err_any : {T E P : Type 0} (r : Result T E) → P → OnErr r P
on_err_any (Ok x) p = tt
on_err_any (Err e) p = p

pub returns-in_err-desk-clause-kept : goal.returns-in_err-desk-clause-kept
returns-in_err-desk-clause-kept g c t clean shows = on_err_any _ (c.read_desk.ensures.read.kept t clean shows)

pub returns-in_err-step-clause-kept : goal.returns-in_err-step-clause-kept
returns-in_err-step-clause-kept g c t clean shows = on_err_any _ (c.read_desk.ensures.read.kept t clean shows)

pub returns-clause-made : goal.returns-clause-made
returns-clause-made g c t clean shows fits =
    let mid : HasCleanDisk (state g.S.Store c.read_desk.new.conn) = omega (arith, c.run_steps.ensures.doubt, clean) in
    c.run_steps.ensures.made t (changed t c.args.change.now c.args.day) clean (c.read_desk.ensures.read.kept t mid shows)
    (λ k db ran. step_made g.S.Store c.read_desk.new.conn db t k c.args.change.now c.args.day c.in_ok-step.ensures.named fits c.in_ok-step.step
    (c.in_ok-step.ensures.written t (c.in_ok-desk.ensures.found t mid shows)) ran)

pub returns-clause-kept : goal.returns-clause-kept
returns-clause-kept g c t clean shows =
    let mid : HasCleanDisk (state g.S.Store c.read_desk.new.conn) = omega (arith, c.run_steps.ensures.doubt, clean) in
    c.run_steps.ensures.kept t clean (c.read_desk.ensures.read.kept t mid shows)

pub returns-clause-crash : goal.returns-clause-crash
returns-clause-crash g c t k fits =
    survives_then (state g.S.Store c.args.conn.now) (state g.S.Store c.read_desk.new.conn) (state g.S.Store c.run_steps.new.conn) _ _ _ (λ _ db none. absurd none)
    (λ clean trees h.
    let mid : HasCleanDisk (state g.S.Store c.read_desk.new.conn) = omega (arith, c.run_steps.ensures.doubt, clean) in (
      h.0,
      step_made g.S.Store c.read_desk.new.conn h.0 t (c.read_desk.ensures.read.kept t mid (λ _. k) (c.in_ok-desk.ensures.read.opened mid)) c.args.change.now
          c.args.day c.in_ok-step.ensures.named fits c.in_ok-step.step (c.in_ok-step.ensures.written t (c.in_ok-desk.ensures.found t mid (λ _. k))) h.1,
      h.2,
    ))
    (c.read_desk.ensures.read.crash t k) c.run_steps.ensures.crash
