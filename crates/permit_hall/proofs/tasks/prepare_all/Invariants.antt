use Rattle.std.proofs.Common.{◌≡◌, ◌++◌, map}
use Rattle.std.specs.Vec.Iter.{into_iter_items}
use Rattle.permit_hall.proofs.tasks.prepare_all.Given as goal

abbrev pub invariant-loop-task : goal.invariant-loop-task
invariant-loop-task g l = map (λ x. x.task) l.all.items ++ into_iter_items l.task-iterator ≡ l.fn.tasks.items
