use Rattle.std.proofs.Common.{rules, sym, ap, map}
use Rattle.std.proofs.lemmas.List.{take_all}
use Rattle.permit_hall.specs.Counts.{acted}
use Rattle.permit_hall.specs.Events.{event_of}
use Rattle.permit_hall.proofs.EventSteps.{starts, acted_next, given_is, as_acted}
use Rattle.permit_hall.proofs.HallRuns.{hall_runs}
use Rattle.permit_hall.proofs.events.hall_run.Goals as goal

pub loop-event-init : goal.loop-event-init
loop-event-init g c = (
  starts _ c.args.office.now _ _ _
      (ap (λ l. map (λ q. (q.0, q.1.now)) l) c.in_ok-queue.ensures.items) c.in_ok-ready.ensures.items c.in_ok-answers.ensures.items,
  search rules,
  search rules,
  search rules,
  search rules,
  search rules,
)

pub loop-event-preserved : goal.loop-event-preserved
loop-event-preserved g c = let h = c.loop-event.invariant in (
  as_acted _ _ _ _ _ _ _ _ (acted_next event_of c.args.events.now c.loop-event.event-index _ c.loop-event-test.true c.event-item.is)
      (c.act.ensures.at c.args.office.now _ h.0),
  search rules,
  search rules,
  search rules,
  search rules,
  search rules,
)

pub returns-clause-run : goal.returns-clause-run
returns-clause-run g c =
    let k = as_acted _ _ _ _ _ _ (acted (map event_of c.args.events.now)) _
    (sym (ap (λ l. acted (map event_of l)) (take_all c.loop-event.event-index c.args.events.now c.loop-event-test.false))) c.loop-event.invariant.0 in
    hall_runs g.S.Store.view g.L.Log (map event_of c.args.events.now) _ c.args.office.now _ k.0 k.1 k.2.taken
    (given_is (acted (map event_of c.args.events.now)) k.0 _ _ _ k.2)
