use Rattle.permit_sql_statements.proofs.query.rows_of.Goals as goal

pub returns-clause-outlasts : goal.returns-clause-outlasts
returns-clause-outlasts g c plain t k = (rw c.conn.view_is at c.read_all.ensures.query).crash (λ clean. plain _ (k clean).schema)
