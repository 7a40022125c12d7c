use Rattle.permit_sql_rows.proofs.Ascii.{digest_utf8}
use Rattle.permit_sql_rows.proofs.Stated.{not_some}
use Rattle.permit_sql_rows.proofs.fields.digest.Goals as goal

pub returns-in_err-string_in-clause-some : goal.returns-in_err-string_in-clause-some
returns-in_err-string_in-clause-some c = λ t good is. not_some _ c.in_err-string_in.was (c.string_in.ensures.some t (digest_utf8 t good) is)
