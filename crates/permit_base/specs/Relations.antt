-- Which relations a set of them holds.
use Rattle.std.specs.Prelude.{Bool}
use Rattle.permit_base.specs.declared.words.Relation.{Relation}
use Rattle.permit_base.specs.declared.words.Relation.TheVariants as relation
use Rattle.permit_base.specs.declared.words.Relations.{Relations}

-- whether the relation is in the set
abbrev pub holds : Relations → Relation → Bool
holds set relation.Applicant = set.applicant
holds set relation.Contractor = set.contractor
holds set relation.Owner = set.owner
holds set relation.AssignedReviewer = set.assigned_reviewer
holds set relation.AssignedInspector = set.assigned_inspector
holds set relation.Conflict = set.conflict
