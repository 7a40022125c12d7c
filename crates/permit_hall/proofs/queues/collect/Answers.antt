use Rattle.permit_hall.specs.OfficeSteps.{StepFor}
use Rattle.std.proofs.Common.{◌≡◌, ◌<◌, ◌++◌, ◌∷◌, [], sym, ap, ◌∙◌, map, subst, length, take, drop, suc, get_or}
use Rattle.permit_hall.specs.Counts.{after}
use Rattle.permit_model.specs.HallRun.{count_of}
use Rattle.permit_hall.specs.Queues.{IsAt}
use Rattle.permit_model.specs.HallRun.{Collect}
use Rattle.permit_hall.proofs.EventSteps.{collect_stays, collect_goes, split_at}
use Rattle.permit_hall.proofs.queues.collect.Goals as goal

pub returns-in_default-clause-at : goal.returns-in_default-clause-at
returns-in_default-clause-at g c start end h queue k = collect_stays _ start end h queue c.args.ready.now.items c.args.answers.now.items c.args.session
    (sym (ap (λ l. count_of c.args.session (map (λ p. p.0) l)) c.as_slice.ensures.value) ∙ c.in_default.ensures.none) k

pub returns-clause-at : goal.returns-clause-at
returns-clause-at g c start end h queue k =
    let r = c.remove-answer.result in let ready = c.args.ready.now.items in let at = c.in-Some.at in let first = c.in-Some.ensures.first in let same =
    c.as_slice.ensures.value in
    let low : at < length ready = subst (λ l. at < length l) same first.0 in
    let of : r.0 ≡ c.args.session = ap (λ p. p.0) c.remove-answer.ensures.value ∙ sym (ap (λ l. (get_or l at r).0) same) ∙ first.2 r in
    let none : count_of c.args.session (map (λ p. p.0) (take at ready)) ≡ 0 = sym (ap (λ l. count_of c.args.session (map (λ p. p.0) (take at l))) same)
    ∙ first.1 in
    let cut = split_at ready at r low c.remove-answer.ensures.value ∙ ap (λ s. take at ready ++ (s, r.1) ∷ drop (suc at) ready) of in
    subst (λ (x : _ × _). IsAt (StepFor g.S.Store.view g.L.Log) start end (after h (Collect c.args.session)) queue x.0 x.1)
    (λ i. (sym c.remove-answer.ensures.items i, sym (c.push_reserved.ensures.items ∙ ap (λ s. c.args.answers.now.items ++ (s, r.1) ∷ []) of) i))
    (collect_goes _ start end h queue ready c.args.answers.now.items c.args.session r.1 (take at ready) (drop (suc at) ready) cut none k)
