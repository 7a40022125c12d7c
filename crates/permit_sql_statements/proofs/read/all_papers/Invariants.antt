use Rattle.std.proofs.Common.{◌≡◌, List, map, take}
use Rattle.permit_model.specs.Tables.{Paper}
use Rattle.permit_sql_rows.specs.Rows.{shown_paper}
use Rattle.permit_sql_statements.proofs.read.all_papers.Given as goal

-- the rows so far are as many papers
abbrev pub invariant-rows : goal.invariant-rows
invariant-rows l = (papers : List Paper) → l.rows ≡ map shown_paper papers → l.papers.items ≡ take l.row-index papers
