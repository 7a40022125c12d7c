use Rattle.std.proofs.Common.{◌≡◌, map, take, true}
use Rattle.std.specs.Prelude.{IsTrue}
use Rattle.sqlite.specs.State.{HasCleanDisk, Survives}
use Rattle.sqlite.specs.Held.{state}
use Rattle.permit_sql_statements.specs.Statements.{Ran}
use Rattle.permit_sql_statements.specs.TextAndParams.{text_and_params}
use Rattle.permit_sql_statements.proofs.statements.run_all.Given as goal

-- the statements so far have run, and nothing is committed
abbrev pub invariant-statements : goal.invariant-statements
invariant-statements g l =
    let begun = record l.fn.conn { in_transaction = true } in
    let now = state g.S.Store l.tx.conn.now in
    (l.tx.conn.ghost_name ≡ l.initial.tx.conn.ghost_name) × Survives (state g.S.Store begun) now (λ _. ⊥)
    × (HasCleanDisk now → Ran g.S.Store (map text_and_params (take l.statement-index l.statements)) begun l.tx.conn.now × IsTrue now.in_transaction
    × (now.committed ≡ (state g.S.Store begun).committed) × (IsTrue now.is_open → IsTrue (state g.S.Store begun).is_open))
