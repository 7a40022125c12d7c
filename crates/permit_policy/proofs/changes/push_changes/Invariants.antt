use Rattle.std.proofs.Common.{◌≡◌, ◌++◌, drop, map, All}
use Rattle.permit_base.specs.Words.{all_actions}
use Rattle.permit_base.specs.declared.words.Action.{Action}
use Rattle.permit_policy.specs.Changes.{request_of, IsChanged}
use Rattle.permit_policy.proofs.changes.push_changes.Given as goal

-- the requests so far, and those of the actions that are left
abbrev pub invariant-loop-action : goal.invariant-loop-action
invariant-loop-action l = record {
  order : map request_of l.all.items ++ map (λ (action : Action). (l.role, action)) (drop l.action-index l.action-items)
      ≡ map request_of l.fn.all.items ++ map (λ (action : Action). (l.role, action)) all_actions;
  each : All (IsChanged l.policy l.other) l.fn.all.items → All (IsChanged l.policy l.other) l.all.items;
}
