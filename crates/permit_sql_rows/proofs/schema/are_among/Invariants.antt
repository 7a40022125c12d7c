use Rattle.std.proofs.Common.{◌↔◌, map, length}
use Rattle.std.specs.List.{AllByRecursion}
use Rattle.permit_sql_rows.specs.Schema.{IsAmong}
use Rattle.permit_sql_rows.specs.Shape.{index_of}
use Rattle.permit_sql_rows.proofs.schema.are_among.Given as goal

-- those left are among the indexes exactly where all are
abbrev pub invariant-searches : goal.invariant-searches
invariant-searches l = AllByRecursion (λ i. IsAmong i l.indexes) (map index_of l.searches) ↔ AllByRecursion (λ i. IsAmong i l.indexes) (map index_of l.fn.searches)

abbrev pub decreases-searches : goal.decreases-searches
decreases-searches l = length l.searches
