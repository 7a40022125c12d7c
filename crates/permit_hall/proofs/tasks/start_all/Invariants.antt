use Rattle.std.proofs.Common.{◌≡◌, ◌+◌, ◌≤◌, ◌++◌, [], map, length}
use Rattle.std.specs.Prelude.{All, vec_capacity}
use Rattle.std.specs.Vec.Iter.{into_iter_items}
use Rattle.permit_hall.specs.Session.{Has}
use Rattle.permit_hall.specs.Worker.{WillBe}
use Rattle.permit_hall.proofs.tasks.start_all.Given as goal

abbrev pub invariant-loop-session : goal.invariant-loop-session
invariant-loop-session g l =
    (map (λ w. w.place.value) l.workers.items ++ map (λ j. j.0) (into_iter_items l.session-iterator) ≡ map (λ j. j.0) l.fn.jobs.items)
    × (map (λ w. w.task.value) l.workers.items ++ map (λ j. j.1.task) (into_iter_items l.session-iterator) ≡ map (λ j. j.1.task) l.fn.jobs.items)
    × All (λ w. WillBe g.T.Task.did w.place.value w.task.value w.state) l.workers.items
    × All (λ j. Has j.0 [] []) (into_iter_items l.session-iterator)
    × (length l.workers.items + length (into_iter_items l.session-iterator) ≤ vec_capacity l.workers)
