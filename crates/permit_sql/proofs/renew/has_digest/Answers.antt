use Rattle.std.proofs.lemmas.Result.{IfOk-weaker}
use Rattle.sqlite.specs.Held.{state}
use Rattle.permit_sql_statements.specs.declared.texts.TheConstants.{FIND_PARTY}
use Rattle.permit_sql_statements.proofs.QueryTexts.{plain_second, find_party_plain}
use Rattle.permit_sql.proofs.Renewing.{digest_told}
use Rattle.permit_sql.proofs.renew.has_digest.Goals as goal

pub has_row-requires-clause-plain : goal.has_row-requires-clause-plain
has_row-requires-clause-plain g c = plain_second FIND_PARTY.now find_party_plain

pub returns-clause-found : goal.returns-clause-found
returns-clause-found g c clean t k =
    let old = state g.S.Store c.args.conn.now in
    let new = state g.S.Store c.has_row.new.conn in
    IfOk-weaker c.has_row.result _ _ (λ has h. digest_told old new t h.0 has k h.2 c.args.digest.now (rw (c.params-to_sql.ensures, c.as_str.ensures.same) at h.1))
    (c.has_row.ensures.shown clean)
