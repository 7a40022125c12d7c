use Rattle.std.proofs.Common.{rules, ◌≡◌, ◌<◌, ℕ, Option, Some, None, IfSome, length}
use Rattle.std.specs.Prelude.{IsSome}
use Rattle.sqlite_value.specs.Order.{column}
use Rattle.permit_sql_rows.specs.Rows.{or_null}
use Rattle.permit_sql_rows.specs.Typed.{IsObject}
use Rattle.permit_sql_rows.proofs.Stated.{not_some}
use Rattle.permit_sql_rows.proofs.fields.party_or_null.Goals as goal

pub returns-in_err-party_number-in_default-clause-some : goal.returns-in_err-party_number-in_default-clause-some
returns-in_err-party_number-in_default-clause-some c = split
  where
    split : (o : Option ℕ) → IfSome o IsObject → c.args.at < length c.args.row.now → column c.args.row.now c.args.at ≡ or_null o → IsSome c.from_residual.result
    split (Some n) good there e = not_some _ c.in_err-party_number-in_default.was (c.party_number.ensures.some n good e)
    split None good there e = search rules
