use Rattle.std.proofs.Common.{rules, ◌∙◌, ◌≡◌, ◌∷◌, sym, subst, [], map}
use Rattle.std.specs.Prelude.{All}
use Rattle.std.specs.Vec.Iter.{into_iter_items}
use Rattle.permit_hall.specs.Session.{Has}
use Rattle.permit_hall.specs.Worker.{WillBe}
use Rattle.permit_hall.proofs.Moving.{works_begin, works_on, works_end, all_none, nil_of, room_first, room_left, all_first, all_left, all_more}
use Rattle.permit_hall.proofs.tasks.start_all.Goals as goal

pub loop-session-init : goal.loop-session-init
loop-session-init g c = let no = c.requires.room.0 in let same = c.into_iter-session-iterator.ensures.into_iter_gives.0 in (
  works_begin (λ j. j.0) (λ w. w.place.value) c.args.room.items _ c.args.jobs.items no same,
  works_begin (λ j. j.1.task) (λ w. w.task.value) c.args.room.items _ c.args.jobs.items no same,
  all_none (λ w. WillBe g.T.Task.did w.place.value w.task.value w.state) c.args.room.items no,
  subst (λ l. All (λ j. Has j.0 [] []) l) (sym same) c.requires.new,
  room_first c.args.room.items _ c.args.jobs.items _ no same c.requires.room.1,
)

pub start-requires-after_bounds : goal.start-requires-after_bounds
start-requires-after_bounds g c κs within = all_first (λ j. Has j.0 [] []) (c.in-Some.session, c.in-Some.prepared) _ (into_iter_items c.next.new.self)
    (search rules) c.loop-session.invariant.3

pub loop-session-preserved : goal.loop-session-preserved
loop-session-preserved g c =
    let h = c.loop-session.invariant in let cut : into_iter_items c.loop-session.session-iterator ≡ (c.in-Some.session, c.in-Some.prepared)
    ∷ into_iter_items c.next.new.self = search rules in (
      works_on (λ j. j.0) (λ w. w.place.value) c.loop-session.workers.items c.push_reserved.new.self.items c.start.result
          (into_iter_items c.loop-session.session-iterator) (into_iter_items c.next.new.self) (c.in-Some.session, c.in-Some.prepared)
          (map (λ j. j.0) c.args.jobs.items)
          c.push_reserved.ensures.items cut c.start.ensures.told.0 h.0,
      works_on (λ j. j.1.task) (λ w. w.task.value) c.loop-session.workers.items c.push_reserved.new.self.items c.start.result
          (into_iter_items c.loop-session.session-iterator) (into_iter_items c.next.new.self) (c.in-Some.session, c.in-Some.prepared)
          (map (λ j. j.1.task) c.args.jobs.items)
          c.push_reserved.ensures.items cut c.start.ensures.told.1 h.1,
      all_more (λ w. WillBe g.T.Task.did w.place.value w.task.value w.state) c.loop-session.workers.items c.push_reserved.new.self.items c.start.result c.push_reserved.ensures.items h.2 c.start.ensures.right,
      all_left (λ j. Has j.0 [] []) (c.in-Some.session, c.in-Some.prepared) (into_iter_items c.loop-session.session-iterator)
          (into_iter_items c.next.new.self) cut h.3,
      room_left c.loop-session.workers.items c.push_reserved.new.self.items c.start.result (into_iter_items c.loop-session.session-iterator)
          (into_iter_items c.next.new.self) (c.in-Some.session, c.in-Some.prepared) _ _ c.push_reserved.ensures.items cut c.push_reserved.ensures.capacity h.4,
    )

pub returns-clause-places : goal.returns-clause-places
returns-clause-places g c = works_end (λ j. j.0) (λ w. w.place.value) c.loop-session.workers.items (into_iter_items c.loop-session.session-iterator)
    (map (λ j. j.0) c.args.jobs.items) (nil_of _ (sym c.loop-session.session-iterator.rest.ok.0 ∙ c.in-None.ensures.steps.0)) c.loop-session.invariant.0

pub returns-clause-tasks : goal.returns-clause-tasks
returns-clause-tasks g c = works_end (λ j. j.1.task) (λ w. w.task.value) c.loop-session.workers.items (into_iter_items c.loop-session.session-iterator)
    (map (λ j. j.1.task) c.args.jobs.items) (nil_of _ (sym c.loop-session.session-iterator.rest.ok.0 ∙ c.in-None.ensures.steps.0)) c.loop-session.invariant.1
