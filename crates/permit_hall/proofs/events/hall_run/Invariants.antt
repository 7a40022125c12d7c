use Rattle.std.proofs.Common.{◌≤◌, length, map, take}
use Rattle.std.specs.Prelude.{vec_capacity}
use Rattle.permit_hall.specs.Counts.{acted}
use Rattle.permit_hall.specs.Queues.{IsAt}
use Rattle.permit_hall.specs.OfficeSteps.{StepFor}
use Rattle.permit_hall.specs.Events.{event_of}
use Rattle.permit_hall.proofs.events.hall_run.Given as goal

abbrev pub invariant-loop-event : goal.invariant-loop-event
invariant-loop-event g l =
    IsAt (StepFor g.S.Store.view g.L.Log) l.fn.office l.office (acted (map event_of (take l.event-index l.events)))
    (map (λ q. (q.0, q.1.now)) l.queue.items) l.ready.items l.answers.items
    × (64 ≤ vec_capacity l.queue)
    × (length l.ready.items ≤ l.event-index) × (length l.events ≤ vec_capacity l.ready)
    × (length l.answers.items ≤ l.event-index) × (length l.events ≤ vec_capacity l.answers)
