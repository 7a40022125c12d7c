-- What is asked of a set of relations.
use Rattle.std.specs.Prelude.{Bool, true, false, not, ◌&&◌, if◌then◌else◌}
use Rattle.permit_base.specs.declared.words.Relation.{Relation}
use Rattle.permit_base.specs.declared.words.Relation.TheVariants.{Applicant, Contractor, Owner, AssignedReviewer, AssignedInspector, Conflict}
use Rattle.permit_base.specs.declared.words.Relations.{Relations}
use Rattle.permit_policy.specs.declared.patterns.Pattern.{Pattern}

-- what is asked of one relation: that it is there, that it isn't, or nothing
abbrev pub asks : Bool → Bool → Bool → Bool
asks with without held = if with then held else (if without then not held else true)

-- whether the set has what is asked
abbrev pub fits : Pattern → Relations → Bool
fits p set =
    asks p.with.applicant p.without.applicant set.applicant
    && asks p.with.contractor p.without.contractor set.contractor
    && asks p.with.owner p.without.owner set.owner
    && asks p.with.assigned_reviewer p.without.assigned_reviewer set.assigned_reviewer
    && asks p.with.assigned_inspector p.without.assigned_inspector set.assigned_inspector
    && asks p.with.conflict p.without.conflict set.conflict

-- the one set and no other
abbrev pub exactly : Relations → Pattern
exactly set = record {
  with = set;
  without = record {
    applicant = not set.applicant;
    contractor = not set.contractor;
    owner = not set.owner;
    assigned_reviewer = not set.assigned_reviewer;
    assigned_inspector = not set.assigned_inspector;
    conflict = not set.conflict;
  };
}

-- the set without a relation
abbrev pub without : Relations → Relation → Relations
without set Applicant = record set { applicant = false }
without set Contractor = record set { contractor = false }
without set Owner = record set { owner = false }
without set AssignedReviewer = record set { assigned_reviewer = false }
without set AssignedInspector = record set { assigned_inspector = false }
without set Conflict = record set { conflict = false }
