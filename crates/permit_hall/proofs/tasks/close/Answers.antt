use Rattle.std.proofs.Common.{rules, arith, ap, ◌∙◌, ◌≡◌, ◌≤◌, ◌<◌, ◌∷◌, ◌+◌, sym, subst, [], length, get_or, drop}
use Rattle.std.specs.Vec.Iter.{into_iter_items}
use Rattle.crossbeam_channel.specs.Claims.{view}
use Rattle.crossbeam_channel.specs.Ends.{sends_on, receives_on}
use Rattle.std.proofs.lemmas.List.{get_or-set_other, length-set, length-append, get_or_default}
use Rattle.permit_hall.specs.Session.{put_by}
use Rattle.permit_hall.specs.Owner.{HasSent}
use Rattle.permit_hall.specs.Closing.{sent_by}
use Rattle.permit_hall.proofs.Moving.{first_of_rest}
use Rattle.permit_hall.proofs.Closings.{grown_view, done_is, closes, closed_more, at_place}
use Rattle.permit_hall.proofs.tasks.close.Goals as goal

pub take_back-requires-clause-outlet : goal.take_back-requires-clause-outlet
take_back-requires-clause-outlet g c =
    let h = c.loop-worker.invariant in let n = c.len-number.result in let o = c.index_mut.result.now in
    let len : length c.loop-worker.answers.items ≡ n = search rules in
    let first = first_of_rest c.args.workers.items (length c.loop-worker.answers.items) c.in-Some.worker _ (sym h.1 ∙ c.in-Some.ensures.steps.0) in
    let low : n < length c.args.workers.items = subst (λ k. k < length c.args.workers.items) len first.0 in
    let same : get_or c.args.outlets.now.items n o ≡ o = sym (h.5 n o (omega arith)) ∙ sym c.index_mut.ensures.value in
    subst (λ x. HasSent (sent_by x) x) same (c.requires.places n o c.in-Some.worker low).0

pub take_back-requires-clause-session : goal.take_back-requires-clause-session
take_back-requires-clause-session g c =
    let h = c.loop-worker.invariant in let n = c.len-number.result in let o = c.index_mut.result.now in
    let len : length c.loop-worker.answers.items ≡ n = search rules in
    let first = first_of_rest c.args.workers.items (length c.loop-worker.answers.items) c.in-Some.worker _ (sym h.1 ∙ c.in-Some.ensures.steps.0) in
    let low : n < length c.args.workers.items = subst (λ k. k < length c.args.workers.items) len first.0 in
    let same : get_or c.args.outlets.now.items n o ≡ o = sym (h.5 n o (omega arith)) ∙ sym c.index_mut.ensures.value in
    let worker : get_or c.args.workers.items n c.in-Some.worker ≡ c.in-Some.worker = ap (λ k. get_or c.args.workers.items k c.in-Some.worker) (sym len)
    ∙ first.1 c.in-Some.worker in
    let place = c.requires.places n o c.in-Some.worker low in let done = c.join-done.ensures in (
      (done_is g.T.Task.did c.join-done.result.session c.in-Some.worker.task.value c.join-done.result.out done.1).0,
      done.0.0 ∙ ap (λ w. w.place.value.number) (sym worker) ∙ place.1 ∙ sym (h.6.0 ∙ len),
      done.0.1 ∙ ap (λ w. sends_on w.place.value.intake) (sym worker) ∙ place.2,
      done.0.2 ∙ ap (λ w. receives_on w.place.value.lane) (sym worker) ∙ place.3 ∙ ap (λ x. sends_on x.lane) same,
    )

pub loop-worker-preserved : goal.loop-worker-preserved
loop-worker-preserved g c =
    let h = c.loop-worker.invariant in let n = c.len-number.result in let o = c.index_mut.result.now in let w = c.in-Some.worker in
    let s = c.join-done.result.session in let a = c.join-done.result.out in
    let len : length c.loop-worker.answers.items ≡ n = search rules in
    let first = first_of_rest c.args.workers.items (length c.loop-worker.answers.items) w (into_iter_items c.next.new.self)
    (sym h.1 ∙ c.in-Some.ensures.steps.0) in
    let low : n < length c.args.workers.items = subst (λ k. k < length c.args.workers.items) len first.0 in
    let there : n < length c.args.outlets.now.items = let l = c.requires.lanes in omega arith in
    let same : get_or c.args.outlets.now.items n o ≡ o = sym (h.5 n o (omega arith)) ∙ sym c.index_mut.ensures.value in
    let grown = grown_view (view c.loop-worker.pass) (view c.take_back.new.pass) _ _ (put_by s) h.0.1 c.take_back.ensures.pass.1 in
    let more : length c.push_reserved.new.self.items ≡ length c.loop-worker.answers.items + 1 = ap length c.push_reserved.ensures.items
    ∙ omega (arith, length-append c.loop-worker.answers.items (a ∷ [])) in (
      (c.take_back.ensures.pass.0, grown.0),
      sym first.2 ∙ ap (λ k. drop k c.args.workers.items) (sym more),
      omega arith,
      subst (λ k. length c.args.workers.items ≤ k) (sym c.push_reserved.ensures.capacity) h.3,
      length-set c.loop-worker.outlets.items n c.take_back.new.outlet ∙ h.4,
      (λ k p far. get_or-set_other c.loop-worker.outlets.items n k c.take_back.new.outlet p (λ e. omega arith) ∙ h.5 k p (omega arith)),
      closed_more g.T.Task.did (view c.loop-worker.pass).known
          (view c.take_back.new.pass).known c.args.outlets.now.items c.args.workers.items c.loop-worker.answers.items c.push_reserved.new.self.items
          (put_by s) a h.6 grown.1 c.push_reserved.ensures.items
          (λ p v. at_place g.T.Task.did c.args.outlets.now.items c.args.workers.items (put_by s) a n (length c.loop-worker.answers.items) p v o w len
          (get_or_default c.args.outlets.now.items n p o there ∙ same) (first.1 v)
          (closes g.T.Task.did s w.task.value a (sent_by o) (done_is g.T.Task.did s w.task.value a c.join-done.ensures.1).1 c.take_back.ensures.sent)),
    )
