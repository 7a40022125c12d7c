use Rattle.permit_sql.proofs.WholeMeanings.{each_party_plain}
use Rattle.permit_sql.proofs.Passing.{unless, roles_taken}
use Rattle.permit_sql.proofs.sound.roles_of.Goals as goal

pub takes_all-requires-clause-plain : goal.takes_all-requires-clause-plain
takes_all-requires-clause-plain g c = each_party_plain c.args.edition

pub returns-clause-told : goal.returns-clause-told
returns-clause-told g c clean t typed k = (unless (roles_taken c.args.edition g.S.Store c.args.conn.now c.takes_all.new.conn t typed k _ c.takes_all.new.taker _
    c.new.ensures.items (c.in_ok-all.ensures.handed clean)) c.if-roles.false).1
