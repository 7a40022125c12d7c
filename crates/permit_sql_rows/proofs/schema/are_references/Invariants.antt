use Rattle.std.proofs.Common.{◌≡◌, ◌↔◌, map, length}
use Rattle.permit_sql_rows.specs.Shape.{reference_of}
use Rattle.permit_sql_rows.proofs.schema.are_references.Given as goal

-- what is left is the same exactly where all is
abbrev pub invariant-links : goal.invariant-links
invariant-links l = (l.references ≡ map reference_of l.links) ↔ (l.fn.references ≡ map reference_of l.fn.links)

abbrev pub decreases-links : goal.decreases-links
decreases-links l = length l.references
