use Rattle.std.proofs.Common.{eqb-true, true≢false, sym, ◌∙◌, arith}
use Rattle.std.proofs.lemmas.Bool.Decides.{nat_tests}
use Rattle.permit_sql.proofs.WholeMeanings.{each_parcel_plain}
use Rattle.permit_sql.proofs.Checks.{parcels_are}
use Rattle.permit_sql.proofs.Refused.{took_with, parcels_taken}
use Rattle.permit_sql.proofs.typed.check_parcels.Goals as goal

pub takes_all-requires-clause-plain : goal.takes_all-requires-clause-plain
takes_all-requires-clause-plain g c = each_parcel_plain c.args.edition

pub returns-then-all-clause-good : goal.returns-then-all-clause-good
returns-then-all-clause-good g c clean same =
    let took = c.in_ok-all.ensures.all clean c.if-all.true in
    parcels_are c.args.edition g.S.Store c.args.conn.now c.takes_all.new.conn took.0 c.args.count
    c.new-parcels.result c.takes_all.new.taker c.new-parcels.ensures took.1 (eqb-true _ _ same)

pub returns-then-all-clause-kept : goal.returns-then-all-clause-kept
returns-then-all-clause-kept g c clean t typed k same =
    let took = took_with (parcels_taken c.args.edition g.S.Store c.args.conn.now c.takes_all.new.conn t typed k
    c.new-parcels.result c.takes_all.new.taker c.in_ok-all.all c.new-parcels.ensures (c.in_ok-all.ensures.handed clean)) c.if-parcels.false in
    let count = took.1 in
    grind (arith, nat_tests)

pub returns-else-all-clause-kept : goal.returns-else-all-clause-kept
returns-else-all-clause-kept g c clean t typed k same =
    let took = took_with (parcels_taken c.args.edition g.S.Store c.args.conn.now c.takes_all.new.conn t typed k
    c.new-parcels.result c.takes_all.new.taker c.in_ok-all.all c.new-parcels.ensures (c.in_ok-all.ensures.handed clean)) c.if-parcels.false in
    absurd (true≢false (sym took.0 ∙ c.if-all.false))
