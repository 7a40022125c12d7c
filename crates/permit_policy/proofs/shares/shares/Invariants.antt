use Rattle.std.proofs.Common.{◌≡◌, ◌+◌, All}
use Rattle.permit_base.specs.declared.words.Role.{Role}
use Rattle.permit_base.specs.declared.words.Action.{Action}
use Rattle.permit_base.specs.declared.words.Relations.{Relations}
use Rattle.permit_model.specs.Opened.{cell_facts}
use Rattle.permit_policy.specs.Hits.{AreHits}
use Rattle.permit_policy.specs.Masks.{only_where, has_set}
use Rattle.permit_policy.specs.Shares.{decided_for, shared, TellsShare}
use Rattle.permit_policy.proofs.Sharing.{LeavesRules}
use Rattle.permit_policy.proofs.shares.shares.Given as goal

abbrev pub invariant-loop-place : goal.invariant-loop-place
invariant-loop-place l = record {
  once : (set : Relations) → shared l.shares.items set + only_where (has_set l.undecided set) 1 ≡ 1;
  told : (role : Role) (action : Action) → AreHits role action l.rules l.hits → All (TellsShare (decided_for l.rules role action l.cell)) l.shares.items;
  left : (role : Role) (action : Action) → AreHits role action l.rules l.hits → (set : Relations) → LeavesRules l.rules l.place (cell_facts role action l.cell set) (has_set l.undecided set);
}
