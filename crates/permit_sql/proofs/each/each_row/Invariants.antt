use Rattle.std.proofs.Common.{◌≡◌, false, List}
use Rattle.sqlite_value.specs.Order.{Row}
use Rattle.sqlite.specs.State.{HasCleanDisk, IsUnchanged, Survives}
use Rattle.sqlite.specs.Values.{bound}
use Rattle.sqlite.specs.Held.{state}
use Rattle.sqlite.specs.Given.{HasGiven}
use Rattle.permit_sql.specs.Taken.{TookAll}
use Rattle.permit_sql.proofs.each.each_row.Given as goal

abbrev pub invariant-rows : goal.invariant-rows
invariant-rows g l =
    let old = state g.S.Store l.fn.conn in
    let now = state g.S.Store l.rows.conn.now in
    (l.rows.conn.ghost_name ≡ l.initial.rows.conn.ghost_name) × Survives old now (λ _. ⊥)
    × (HasCleanDisk now → (given : List Row) × HasGiven g.S.Store l.sql (bound l.params) l.rows.conn.now given × IsUnchanged old now
    × TookAll g.T.Taker.took given l.fn.taker l.taker)
    × (l.rows.conn.now.in_transaction ≡ false)
