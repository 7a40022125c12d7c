use Rattle.std.proofs.Common.{sym, ◌∙◌}
use Rattle.permit_sql.proofs.WholeMeanings.{each_file_plain}
use Rattle.permit_sql.proofs.Passing.{unless, filed_taken}
use Rattle.permit_sql.proofs.sound_files.tallies_of.Goals as goal

pub takes_all-requires-clause-plain : goal.takes_all-requires-clause-plain
takes_all-requires-clause-plain g c = each_file_plain c.args.edition

pub returns-then-not-all-clause-told : goal.returns-then-not-all-clause-told
returns-then-not-all-clause-told g c clean t typed k same =
    let took = unless (filed_taken c.args.edition g.S.Store c.args.conn.now c.takes_all.new.conn t typed k _ c.takes_all.new.taker _ c.new.ensures.items
    (sym same)
    (c.in_ok-all.ensures.handed clean)) c.if-filed.false in
    (sym c.if-not-all.true ∙ took.0, tt)

pub returns-clause-told : goal.returns-clause-told
returns-clause-told g c clean t typed k same =
    let took = unless (filed_taken c.args.edition g.S.Store c.args.conn.now c.takes_all.new.conn t typed k _ c.takes_all.new.taker _ c.new.ensures.items
    (sym same)
    (c.in_ok-all.ensures.handed clean)) c.if-filed.false in
    (sym c.if-not-all.false ∙ took.0, took.1 c.if-not-all.false)
