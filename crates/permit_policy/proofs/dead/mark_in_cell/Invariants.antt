use Rattle.std.proofs.Common.{◌≡◌, ◌⊎◌, ℕ, true}
use Rattle.permit_base.specs.declared.words.Role.{Role}
use Rattle.permit_base.specs.declared.words.Action.{Action}
use Rattle.permit_base.specs.declared.words.Relations.{Relations}
use Rattle.permit_model.specs.Opened.{cell_facts}
use Rattle.permit_policy.specs.Masks.{has_set}
use Rattle.permit_policy.specs.Hits.{AreHits}
use Rattle.permit_policy.specs.Dead.{IsLive}
use Rattle.permit_policy.specs.Marks.{is_marked}
use Rattle.permit_policy.proofs.Marking.{Passes}
use Rattle.permit_policy.proofs.dead.mark_in_cell.Given as goal

abbrev pub invariant-loop-place : goal.invariant-loop-place
invariant-loop-place l = record {
  kept : (k : ℕ) → is_marked l.fn.live k ≡ true → is_marked l.live k ≡ true;
  sound : (role : Role) (action : Action) → AreHits role action l.rules l.hits → (k : ℕ) → is_marked l.live k ≡ true →
      (is_marked l.fn.live k ≡ true) ⊎ IsLive l.rules k;
  passes : (role : Role) (action : Action) → AreHits role action l.rules l.hits → (set : Relations)
      → Passes l.rules l.place (cell_facts role action l.cell set) (has_set l.undecided set) l.live;
}
