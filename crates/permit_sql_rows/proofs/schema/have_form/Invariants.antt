use Rattle.std.proofs.Common.{◌≡◌, ◌↔◌, map, length}
use Rattle.permit_sql_rows.specs.Shape.{index_of}
use Rattle.permit_sql_rows.proofs.schema.have_form.Given as goal

-- what is left is the same exactly where all is
abbrev pub invariant-searches : goal.invariant-searches
invariant-searches l = (l.indexes ≡ map index_of l.searches) ↔ (l.fn.indexes ≡ map index_of l.fn.searches)

abbrev pub decreases-searches : goal.decreases-searches
decreases-searches l = length l.indexes
