use Rattle.sqlite.specs.Held.{state}
use Rattle.permit_sql.proofs.Looks.{query_looks}
use Rattle.permit_sql.proofs.Version.{first_plain, desk_rows_seen}
use Rattle.permit_sql.proofs.open.desk_seen.Goals as goal

pub returns-in-Ok-clause-rows : goal.returns-in-Ok-clause-rows
returns-in-Ok-clause-rows g c clean = desk_rows_seen (state g.S.Store c.args.conn.now) (state g.S.Store c.read_all.new.conn) c.in-Ok.rows.items c.requires.desk
    (c.in-Ok.ensures.rows clean)

pub returns-in-Ok-clause-look : goal.returns-in-Ok-clause-look
returns-in-Ok-clause-look g c =
    query_looks g.S.Store _ c.in-Ok.ensures.query c.in-Ok.ensures.query.opened (first_plain c.args.conn.now.schema c.requires.desk)

pub returns-in-Err-clause-look : goal.returns-in-Err-clause-look
returns-in-Err-clause-look g c = query_looks g.S.Store _ c.read_all.ensures.query (λ clean. tt) (first_plain c.args.conn.now.schema c.requires.desk)
