use Rattle.std.proofs.lemmas.Result.{IfOk-weaker}
use Rattle.sqlite.specs.Held.{state}
use Rattle.permit_sql_statements.specs.declared.texts.TheConstants.{READ_PARTY}
use Rattle.permit_sql_statements.proofs.QueryTexts.{plain_second, read_party_plain}
use Rattle.permit_sql.proofs.Renewing.{party_told}
use Rattle.permit_sql.proofs.renew.has_party.Goals as goal

pub has_row-requires-clause-plain : goal.has_row-requires-clause-plain
has_row-requires-clause-plain g c = plain_second READ_PARTY.now read_party_plain

pub returns-clause-found : goal.returns-clause-found
returns-clause-found g c clean t k =
    let old = state g.S.Store c.args.conn.now in
    let new = state g.S.Store c.has_row.new.conn in
    IfOk-weaker c.has_row.result _ _ (λ has h. party_told old new t h.0 has k h.2 c.args.party (rw (c.params-to_sql.ensures) at h.1))
    (c.has_row.ensures.shown clean)
