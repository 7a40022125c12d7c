use Rattle.std.proofs.Common.{◌∙◌, ap, ◌++◌, ◌∷◌, [], arith}
use Rattle.permit_sql_rows.specs.Rows.{shown_paper}
use Rattle.permit_sql_statements.proofs.ReadLemmas.{one_more}
use Rattle.permit_sql_statements.proofs.read.all_papers.Goals as goal

pub rows-preserved : goal.rows-preserved
rows-preserved c = λ papers are.
    c.in_ok-push_paper.ensures ∙ ap (λ l. l ++ c.in-Ok.paper ∷ []) (c.rows.invariant papers are)
    ∙ one_more shown_paper papers c.args.rows.now c.rows.row-index c.row-item.result c.in-Ok.paper are (omega (arith, c.rows-test.true)) c.row-item.is
    c.in-Ok.ensures.read
