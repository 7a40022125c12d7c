use Rattle.permit_sql.proofs.Checks.{interest_taken}
use Rattle.permit_sql.proofs.typed.is_interest.Goals as goal

pub returns-in-Some-clause-taken : goal.returns-in-Some-clause-taken
returns-in-Some-clause-taken c = λ said. let it = c.in-Some.ensures.back in interest_taken c.args.row.now c.in-Some.field-0-0 c.in-Some.field-0-1 it.0 it.1 it.2
