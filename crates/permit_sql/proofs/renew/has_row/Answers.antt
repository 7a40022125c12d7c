use Rattle.std.proofs.Common.{◌≡◌, ap, subst, eqb, not, length, rules}
use Rattle.permit_base.specs.declared.words.Edition.TheVariants.{Second}
use Rattle.permit_sql_rows.specs.Schema.{IsOffice}
use Rattle.permit_sql.proofs.Looks.{query_looks}
use Rattle.permit_sql.proofs.renew.has_row.Goals as goal

pub returns-in-Ok-clause-shown : goal.returns-in-Ok-clause-shown
returns-in-Ok-clause-shown g c clean =
    let long : c.len.result ≡ length c.in-Ok.rows.items = search rules in
    (c.in-Ok.rows.items, c.in-Ok.ensures.rows clean, ap (λ n. not (eqb n 0)) long)

pub returns-in-Ok-clause-look : goal.returns-in-Ok-clause-look
returns-in-Ok-clause-look g c =
    let office = subst (IsOffice Second) c.schema.ensures.value (c.is_office.ensures.told.0 c.if-not-is_office.false) in
    query_looks g.S.Store _ c.in-Ok.ensures.query c.in-Ok.ensures.query.opened (c.requires.plain _ office)

pub returns-in-Err-clause-look : goal.returns-in-Err-clause-look
returns-in-Err-clause-look g c =
    let office = subst (IsOffice Second) c.schema.ensures.value (c.is_office.ensures.told.0 c.if-not-is_office.false) in
    query_looks g.S.Store _ c.read_all.ensures.query (λ clean. tt) (c.requires.plain _ office)
