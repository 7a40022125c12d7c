use Rattle.std.proofs.Common.{◌↔◌, length}
use Rattle.permit_sql_rows.specs.Schema.{IsAmong}
use Rattle.permit_sql_rows.specs.Shape.{index_of}
use Rattle.permit_sql_rows.proofs.schema.is_among.Given as goal

-- it is one of those left exactly where it is one of all
abbrev pub invariant-indexes : goal.invariant-indexes
invariant-indexes l = IsAmong (index_of l.fn.search) l.indexes ↔ IsAmong (index_of l.fn.search) l.fn.indexes

abbrev pub decreases-indexes : goal.decreases-indexes
decreases-indexes l = length l.indexes
