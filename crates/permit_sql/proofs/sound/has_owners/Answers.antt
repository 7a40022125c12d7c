use Rattle.std.proofs.lemmas.Result.{IfOk-weaker}
use Rattle.permit_sql.proofs.WholeMeanings.{each_parcel_plain}
use Rattle.permit_sql.proofs.Passing.{owners_taken}
use Rattle.permit_sql.proofs.sound.has_owners.Goals as goal

pub takes_all-requires-clause-plain : goal.takes_all-requires-clause-plain
takes_all-requires-clause-plain g c = each_parcel_plain c.args.edition

pub returns-clause-told : goal.returns-clause-told
returns-clause-told g c clean t typed k = IfOk-weaker c.takes_all.result _ _
    (λ all h. owners_taken c.args.edition g.S.Store c.args.conn.now c.takes_all.new.conn t typed k _ _ all h) (c.takes_all.ensures.handed clean)
