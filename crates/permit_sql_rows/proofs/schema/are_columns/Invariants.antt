use Rattle.std.proofs.Common.{◌≡◌, ◌↔◌, map, length}
use Rattle.permit_sql_rows.specs.Shape.{column_of}
use Rattle.permit_sql_rows.proofs.schema.are_columns.Given as goal

-- what is left is the same exactly where all is
abbrev pub invariant-fields : goal.invariant-fields
invariant-fields l = (l.columns ≡ map column_of l.fields) ↔ (l.fn.columns ≡ map column_of l.fn.fields)

abbrev pub decreases-fields : goal.decreases-fields
decreases-fields l = length l.columns
