use Rattle.std.proofs.Common.{◌≡◌, ℕ, ◌≤◌, length, drop}
use Rattle.std.specs.Prelude.{slice_index_or, vec_capacity}
use Rattle.std.specs.Vec.Iter.{into_iter_items}
use Rattle.crossbeam_channel.specs.Claims.{view, IsSeatAt}
use Rattle.crossbeam_channel.specs.Ends.{sends_on}
use Rattle.permit_hall.specs.Intake.{owner}
use Rattle.permit_hall.specs.Closing.{AreClosed}
use Rattle.permit_hall.proofs.tasks.close.Given as goal

abbrev pub invariant-loop-worker : goal.invariant-loop-worker
invariant-loop-worker g l =
    (IsSeatAt (sends_on l.sender) l.pass × (view l.pass ≡ owner (view l.fn.pass).made (view l.fn.pass).got (view l.pass).known))
    × (into_iter_items l.worker-iterator ≡ drop (length l.answers.items) l.fn.workers.items)
    × (length l.answers.items ≤ length l.fn.workers.items)
    × (length l.fn.workers.items ≤ vec_capacity l.answers)
    × (length l.outlets.items ≡ length l.fn.outlets.items)
    × ((k : ℕ) (o : _) → length l.answers.items ≤ k → slice_index_or l.outlets.items k o ≡ slice_index_or l.fn.outlets.items k o)
    × AreClosed g.T.Task.did (view l.pass).known l.fn.outlets.items l.fn.workers.items l.answers.items
