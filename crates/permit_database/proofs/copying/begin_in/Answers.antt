use Rattle.permit_database.proofs.Failures.{at_ok}
use Rattle.permit_database.proofs.copying.begin_in.Goals as goal

pub returns-in-Ok-begin_text-clause-begun : goal.returns-in-Ok-begin_text-clause-begun
returns-in-Ok-begin_text-clause-begun g c = λ settled clean t shows sound. (
  c.in-Ok.sealed.tables,
  at_ok _ c.sealed_in-conn.result.1 c.in-Ok.sealed c.in-Ok.is c.sealed_in-conn.ensures.sealed clean t shows sound,
  (c.in-Ok-begin_text.ensures.begun settled).1,
)
