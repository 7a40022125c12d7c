use Rattle.permit_sql_statements.proofs.Running.{renewed_by}
use Rattle.permit_sql_statements.proofs.renew.renew_party.Goals as goal

pub returns : goal.returns
returns g c =
    renewed_by g.S.Store c.args.party c.args.digest.now (rw (c.params-to_sql.ensures, c.params-to_sql-2.ensures, c.as_str.ensures.same) at c.run_one.ensures)
