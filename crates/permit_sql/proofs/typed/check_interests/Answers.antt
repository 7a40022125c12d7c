use Rattle.std.proofs.lemmas.Result.{IfOk-weaker}
use Rattle.permit_sql.proofs.WholeMeanings.{each_interest_plain}
use Rattle.permit_sql.proofs.FileChecks.{interests_are}
use Rattle.permit_sql.proofs.Refused.{interests_taken}
use Rattle.permit_sql.proofs.typed.check_interests.Goals as goal

pub takes_all-requires-clause-plain : goal.takes_all-requires-clause-plain
takes_all-requires-clause-plain g c = each_interest_plain c.args.edition

pub returns-clause-good : goal.returns-clause-good
returns-clause-good g c clean = IfOk-weaker c.takes_all.result _ _ (λ all took said. interests_are c.args.edition g.S.Store c.args.conn.now c.takes_all.new.conn
    (took said).0 _ _ (took said).1) (c.takes_all.ensures.all clean)

pub returns-clause-kept : goal.returns-clause-kept
returns-clause-kept g c clean t typed k = IfOk-weaker c.takes_all.result _ _
    (λ all h. interests_taken c.args.edition g.S.Store c.args.conn.now c.takes_all.new.conn t typed k _ _ all h) (c.takes_all.ensures.handed clean)
