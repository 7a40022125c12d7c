use Rattle.permit_hall.specs.OfficeSteps.{StepFor}
use Rattle.std.proofs.Common.{rules, ◌<◌, ◌∷◌, sym, ap, ◌∙◌, map, subst, length}
use Rattle.permit_hall.specs.Counts.{after}
use Rattle.permit_hall.specs.Queues.{IsAt}
use Rattle.permit_model.specs.HallRun.{Take}
use Rattle.permit_hall.proofs.EventSteps.{take_goes, split_at}
use Rattle.permit_hall.proofs.queues.take_one.Goals as goal

pub returns-clause-at : goal.returns-clause-at
returns-clause-at g c start h given k =
    let r = c.remove-session.result in let low : 0 < length c.args.queue.now.items = search rules in
    let cut = split_at c.args.queue.now.items 0 r low c.remove-session.ensures.value ∙ ap (λ l. r ∷ l) (sym c.remove-session.ensures.items) in
    subst (λ l. IsAt (StepFor g.S.Store.view g.L.Log) start c.step-reply.new.self (after h (Take c.args.day))
    (map (λ q. (q.0, q.1.now)) c.remove-session.new.self.items) l given) (sym c.push_reserved.ensures.items)
    (take_goes _ start c.args.office.now h
    (map (λ q. (q.0, q.1.now)) c.args.queue.now.items) c.args.ready.now.items given c.args.day r.0 r.1.now c.step-reply.result _ c.step-reply.new.self
    (ap (λ l. map (λ q. (q.0, q.1.now)) l) cut) (record { step = c.step-reply.ensures.step; model = c.step-reply.ensures.model }) k)
