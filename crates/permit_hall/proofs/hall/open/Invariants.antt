use Rattle.std.proofs.Common.{◌≡◌, ◌++◌, map}
use Rattle.std.specs.Vec.Iter.{into_iter_items}
use Rattle.permit_hall.specs.Hall.{IsNew}
use Rattle.permit_hall.proofs.hall.open.Given as goal

abbrev pub invariant-loop-task : goal.invariant-loop-task
invariant-loop-task g l = IsNew l.hall (map (λ j. j.0) l.jobs.items) × (map (λ j. j.1) l.jobs.items ++ into_iter_items l.task-iterator ≡ l.fn.tasks.items)
