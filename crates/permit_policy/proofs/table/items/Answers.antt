use Rattle.std.proofs.Common.{arith}
use Rattle.permit_policy.proofs.Items.{items_list-view}
use Rattle.permit_policy.proofs.table.items.Goals as goal

pub returns-in-Some : goal.returns-in-Some
returns-in-Some c = grind (arith, items_list-view)
