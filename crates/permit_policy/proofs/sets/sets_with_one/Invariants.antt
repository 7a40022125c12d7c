use Rattle.std.proofs.Common.{◌≡◌, ◌||◌, drop}
use Rattle.std.specs.List.{list_any}
use Rattle.permit_base.specs.declared.words.Relations.{Relations}
use Rattle.permit_model.specs.Facts.{holds}
use Rattle.permit_policy.specs.Masks.{has_set}
use Rattle.permit_policy.proofs.sets.sets_with_one.Given as goal

-- the sets so far, and those of the relations that are left
abbrev pub invariant-loop-relation : goal.invariant-loop-relation
invariant-loop-relation l = (set : Relations) → (has_set l.sets set || list_any (holds set) (drop l.relation-index l.relations))
    ≡ list_any (holds set) l.relations
