use Rattle.permit_hall.specs.OfficeSteps.{StepFor}
use Rattle.std.proofs.Common.{rules, ◌<◌, ◌∷◌, [], sym, ap, ◌∙◌, inl, inr, map, subst, length}
use Rattle.std.proofs.lemmas.List.{length-map, map-append}
use Rattle.permit_hall.specs.Counts.{after}
use Rattle.permit_model.specs.HallRun.{count_of}
use Rattle.permit_hall.specs.Queues.{IsAt}
use Rattle.permit_model.specs.HallRun.{Put}
use Rattle.permit_hall.proofs.EventSteps.{put_stays, put_goes, some_case, none_case, same_sessions}
use Rattle.permit_hall.proofs.queues.put.Goals as goal

pub returns-then-is_some-clause-at : goal.returns-then-is_some-clause-at
returns-then-is_some-clause-at g c start end h given k = put_stays _ start end h _ c.args.ready.now.items given c.args.session c.args.asked.now
    (inl (subst (λ l. 0 < count_of c.args.session l) (same_sessions (λ b. b.now) c.args.queue.now.items _ c.as_slice.ensures.value)
    (some_case _ c.place.result (sym c.is_some.ensures ∙ c.if-is_some.true) c.place.ensures.none))) k

pub returns-then-is_some-2-clause-at : goal.returns-then-is_some-2-clause-at
returns-then-is_some-2-clause-at g c start end h given k = put_stays _ start end h _ c.args.ready.now.items given c.args.session c.args.asked.now
    (inr (inl (subst (λ l. 0 < count_of c.args.session (map (λ p. p.0) l)) c.as_slice-2.ensures.value
    (some_case _ c.place-2.result (sym c.is_some-2.ensures ∙ c.if-is_some-2.true) c.place-2.ensures.none)))) k

pub returns-clause-at : goal.returns-clause-at
returns-clause-at g c start end h given k =
    let queued = same_sessions (λ b. b.now) c.args.queue.now.items _ c.as_slice.ensures.value in
    let q = none_case _ c.place.result (sym c.is_some.ensures ∙ c.if-is_some.false) c.place.ensures.none in
    let r = none_case _ c.place-2.result (sym c.is_some-2.ensures ∙ c.if-is_some-2.false) c.place-2.ensures.none in
    let room : length (map (λ q. (q.0, q.1.now)) c.args.queue.now.items) < 64 =
    subst (λ n. n < 64) (sym (length-map c.args.queue.now.items (λ q. (q.0, q.1.now)))) (search rules) in
    subst (λ l. IsAt (StepFor g.S.Store.view g.L.Log) start end (after h (Put c.args.session c.args.asked.now)) l c.args.ready.now.items given)
    (sym (ap (λ l. map (λ q. (q.0, q.1.now)) l) c.push_reserved.ensures.items
    ∙ map-append (λ q. (q.0, q.1.now)) c.args.queue.now.items ((c.args.session, c.args.asked) ∷ [])))
    (put_goes _ start end h _ c.args.ready.now.items given c.args.session c.args.asked.now (sym (ap (λ l. count_of c.args.session l) queued) ∙ q)
    (sym (ap (λ l. count_of c.args.session (map (λ p. p.0) l)) c.as_slice-2.ensures.value) ∙ r) room k)
