use Rattle.std.proofs.Common.{◌≡◌, List, map, take}
use Rattle.permit_model.specs.Parcels.{Interest}
use Rattle.permit_sql_rows.specs.Rows.{shown_interest}
use Rattle.permit_sql_statements.proofs.read.all_interests.Given as goal

-- the rows so far are as many interests
abbrev pub invariant-rows : goal.invariant-rows
invariant-rows l = (interests : List Interest) → l.rows ≡ map shown_interest interests → l.interests.items ≡ take l.row-index interests
