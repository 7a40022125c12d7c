use Rattle.std.proofs.Common.{◌≡◌, ◌++◌, map}
use Rattle.std.specs.Vec.Iter.{into_iter_items}
use Rattle.permit_hall.proofs.lists.list_tasks.Given as goal

abbrev pub invariant-loop-list : goal.invariant-loop-list
invariant-loop-list l = map (λ t. t.list) l.all.items ++ into_iter_items l.list-iterator ≡ l.fn.lists.items
