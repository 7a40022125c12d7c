use Rattle.std.proofs.Common.{rules}
use Rattle.permit_sql_rows.proofs.Ascii.{lot_utf8}
use Rattle.permit_sql_rows.proofs.fields.lot.Goals as goal

pub returns-in-Err-clause-some : goal.returns-in-Err-clause-some
returns-in-Err-clause-some c = λ t good is. let h = c.string.ensures.some t (lot_utf8 t good) is in search rules
