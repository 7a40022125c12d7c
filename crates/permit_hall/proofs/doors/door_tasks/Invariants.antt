use Rattle.std.proofs.Common.{◌≡◌, ◌++◌, map}
use Rattle.std.specs.Vec.Iter.{into_iter_items}
use Rattle.permit_hall.proofs.doors.door_tasks.Given as goal

abbrev pub invariant-loop-door : goal.invariant-loop-door
invariant-loop-door g l = map (λ t. t.door) l.all.items ++ into_iter_items l.door-iterator ≡ l.fn.doors.items
