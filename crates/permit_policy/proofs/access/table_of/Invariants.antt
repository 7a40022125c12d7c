use Rattle.std.proofs.Common.{◌≡◌, take, map, All}
use Rattle.permit_policy.specs.Access.{action_of, TellsRow}
use Rattle.permit_policy.proofs.access.table_of.Given as goal

abbrev pub invariant-loop-action : goal.invariant-loop-action
invariant-loop-action l = record {
  order : map action_of l.rows.items ≡ take l.action-index l.action-items;
  told : All (TellsRow l.policy) l.rows.items;
}
