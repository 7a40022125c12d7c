use Rattle.permit_base.specs.declared.words.Role.{Role}
use Rattle.permit_base.specs.declared.words.Action.{Action}
use Rattle.permit_base.specs.declared.words.Relations.{Relations}
use Rattle.permit_model.specs.Opened.{cell_facts}
use Rattle.permit_policy.specs.Masks.{has_set}
use Rattle.permit_policy.specs.Hits.{AreHits}
use Rattle.permit_policy.proofs.Deciding.{Follows}
use Rattle.permit_policy.proofs.masks.allowed_in.Given as goal

abbrev pub invariant-loop-place : goal.invariant-loop-place
invariant-loop-place l =
    (role : Role) (action : Action) → AreHits role action l.rules l.hits → (set : Relations)
    → Follows l.rules l.place (cell_facts role action l.cell set) (has_set l.undecided set) (has_set l.allowed set)
