use Rattle.std.proofs.Common.{◌≡◌, ◌≤◌, false, List}
use Rattle.std.specs.Prelude.{IsTrue}
use Rattle.sqlite_value.specs.Order.{Row}
use Rattle.sqlite_trees.specs.View.{doubt}
use Rattle.sqlite.specs.Given.{IsPlain, HasGiven}
use Rattle.sqlite.specs.Held.{state}
use Rattle.sqlite.specs.Listing.{understood}
use Rattle.sqlite.specs.State.{HasCleanDisk, IsUnchanged, Survives, CommitsShowing}
use Rattle.sqlite.specs.Values.{bound}
use Rattle.permit_core.specs.Taking.{TookAll}
use Rattle.permit_model.specs.Routes.{Found}
use Rattle.permit_sql_statements.specs.Gave.{AreReadAs}
use Rattle.permit_sql_statements.proofs.select.hand_rows.Given as goal

-- what the rows given so far show was taken
abbrev pub invariant-rows : goal.invariant-rows
invariant-rows g l =
    let old = state g.S.Store l.fn.conn in
    let now = state g.S.Store l.rows.conn.now in
    (l.rows.conn.ghost_name ≡ l.initial.rows.conn.ghost_name) × (doubt old.is_clean ≤ doubt now.is_clean)
    × Survives old now (CommitsShowing l.sql (bound l.params) old) × (l.rows.conn.now.in_transaction ≡ false)
    × (given : List Found) × TookAll g.T.Taker.took given l.fn.taker l.taker
    × (HasCleanDisk now → IsTrue old.is_open × IsTrue now.is_open
    × (IsPlain (understood l.fn.conn.schema l.sql) → IsUnchanged old now × (rows : List Row) × HasGiven g.S.Store l.sql (bound l.params) l.rows.conn.now rows
    × AreReadAs l.upgrade rows given))
