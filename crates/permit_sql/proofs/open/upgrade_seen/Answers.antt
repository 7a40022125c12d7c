use Rattle.sqlite.specs.Held.{state}
use Rattle.permit_sql.proofs.Looks.{query_looks}
use Rattle.permit_sql.proofs.UpgradeMeaning.{read_upgrade_plain}
use Rattle.permit_sql.proofs.Upgrades.{upgrade_rows_seen}
use Rattle.permit_sql.proofs.open.upgrade_seen.Goals as goal

pub returns-in-Ok-clause-rows : goal.returns-in-Ok-clause-rows
returns-in-Ok-clause-rows g c clean = upgrade_rows_seen (state g.S.Store c.args.conn.now) (state g.S.Store c.read_all.new.conn) c.in-Ok.rows.items c.requires.office
    (c.in-Ok.ensures.rows clean)

pub returns-in-Ok-clause-look : goal.returns-in-Ok-clause-look
returns-in-Ok-clause-look g c =
    query_looks g.S.Store _ c.in-Ok.ensures.query c.in-Ok.ensures.query.opened (read_upgrade_plain _ c.requires.office)

pub returns-in-Err-clause-look : goal.returns-in-Err-clause-look
returns-in-Err-clause-look g c = query_looks g.S.Store _ c.read_all.ensures.query (λ clean. tt) (read_upgrade_plain _ c.requires.office)
