use Rattle.std.proofs.Common.{◌≡◌, ◌∙◌, ap, eqb, not, length, rules}
use Rattle.permit_sql_statements.proofs.read.has_open_notice.Goals as goal

pub returns-clause-found : goal.returns-clause-found
returns-clause-found g c t clean there =
    let long : c.len.result ≡ length c.in_ok-rows.rows.items = search rules in
    ap (λ n. not (eqb n 0)) long ∙ c.in_ok-rows.ensures.found t clean there
