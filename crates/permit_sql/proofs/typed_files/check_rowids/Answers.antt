use Rattle.std.proofs.Common.{refl}
use Rattle.permit_sql.proofs.WholeMeanings.{each_rowid_plain}
use Rattle.permit_sql.proofs.FileChecks.{rowids_are}
use Rattle.permit_sql.proofs.Refused.{took_every, rowids_taken}
use Rattle.permit_sql.proofs.typed_files.check_rowids.Goals as goal

pub takes_all-requires-clause-plain : goal.takes_all-requires-clause-plain
takes_all-requires-clause-plain g c = each_rowid_plain c.args.edition

pub returns-clause-good : goal.returns-clause-good
returns-clause-good g c clean said =
    let took = c.in_ok-all.ensures.all clean said in
    rowids_are c.args.edition g.S.Store c.args.conn.now c.takes_all.new.conn took.0 _ _ took.1

pub returns-clause-kept : goal.returns-clause-kept
returns-clause-kept g c clean t typed k = took_every (rowids_taken c.args.edition g.S.Store c.args.conn.now c.takes_all.new.conn t typed k _ _ _ refl
    (c.in_ok-all.ensures.handed clean)) c.if-rowids.false
