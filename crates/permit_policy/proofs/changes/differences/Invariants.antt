use Rattle.std.proofs.Common.{◌≡◌, ◌++◌, drop, map, All}
use Rattle.std.specs.List.{flat_map}
use Rattle.permit_base.specs.Words.{all_actions}
use Rattle.permit_base.specs.declared.words.Action.{Action}
use Rattle.permit_base.specs.declared.words.Role.{Role}
use Rattle.permit_policy.specs.Changes.{all_requests, request_of, IsChanged}
use Rattle.permit_policy.proofs.changes.differences.Given as goal

-- the requests so far, and those of the roles that are left
abbrev pub invariant-loop-role : goal.invariant-loop-role
invariant-loop-role l = record {
  order : map request_of l.all.items ++ flat_map (λ (role : Role). map (λ (action : Action). (role, action)) all_actions) (drop l.role-index l.role-items) ≡ all_requests;
  each : All (IsChanged l.policy l.other) l.all.items;
}
