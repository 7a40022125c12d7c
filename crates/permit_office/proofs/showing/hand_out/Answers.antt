use Rattle.std.proofs.Common.{sym, ◌∙◌}
use Rattle.std.specs.Vec.Iter.{into_iter_items}
use Rattle.permit_office.proofs.HandedOut.{took_more, stops, ends, moved}
use Rattle.permit_office.proofs.showing.hand_out.Goals as goal

pub returns-then-not-take : goal.returns-then-not-take
returns-then-not-take g c =
    let h = c.loop-view.invariant in
    stops g.T.Taker.took c.loop-view.yielded (into_iter_items c.loop-view.view-iterator) (into_iter_items c.next.new.self) c.args.files.items c.in-Some.view
    c.args.taker.now c.loop-view.taker c.take.new.self h.1 c.in-Some.ensures.steps.0 h.0 c.if-not-take.ensures

pub loop-view-preserved : goal.loop-view-preserved
loop-view-preserved g c =
    let h = c.loop-view.invariant in (
      took_more g.T.Taker.took c.loop-view.yielded c.in-Some.view c.args.taker.now c.loop-view.taker c.take.new.self h.0 c.if-not-take.ensures,
      moved c.loop-view.yielded (into_iter_items c.loop-view.view-iterator) (into_iter_items c.next.new.self) c.args.files.items c.in-Some.view
          h.1 c.in-Some.ensures.steps.0,
    )

pub returns : goal.returns
returns g c =
    let h = c.loop-view.invariant in
    ends g.T.Taker.took c.loop-view.yielded (into_iter_items c.loop-view.view-iterator) c.args.files.items c.args.taker.now c.loop-view.taker h.1
    (sym c.loop-view.view-iterator.rest.ok.0 ∙ c.in-None.ensures.steps.0) h.0
