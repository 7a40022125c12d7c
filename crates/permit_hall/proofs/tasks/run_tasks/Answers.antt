use Rattle.std.proofs.Common.{ap, ◌∙◌, ◌++◌}
use Rattle.permit_hall.specs.Intake.{requests_in}
use Rattle.permit_hall.proofs.IntakeMoves.{compares}
use Rattle.permit_hall.proofs.Ending.{room_as, as_listed, all_have, none_sent, as_many, stand, all_served}
use Rattle.permit_hall.proofs.tasks.run_tasks.Goals as goal

pub start_all-workers-requires-clause-new : goal.start_all-workers-requires-clause-new
start_all-workers-requires-clause-new g c κs within = all_have c.in-Ok.setup.hall c.in-Ok.setup.jobs.items c.in-Ok.ensures.new

pub serve_all-requires-clause-sent : goal.serve_all-requires-clause-sent
serve_all-requires-clause-sent g c = none_sent c.in-Ok.setup.hall _ c.in-Ok.ensures.new

pub close-outs-requires-clause-room : goal.close-outs-requires-clause-room
close-outs-requires-clause-room g c =
    let many = as_many c.in-Ok.setup.hall c.in-Ok.setup.jobs.items c.start_all-workers.result.items c.serve_all.new.outlets.items c.start_all-workers.ensures.places in
    (c.in-Ok.ensures.outs.0, room_as _ _ _ many c.in-Ok.ensures.outs.1)

pub close-outs-requires-clause-places : goal.close-outs-requires-clause-places
close-outs-requires-clause-places g c = let s = c.serve_all.ensures in
    stand c.in-Ok.setup.hall c.in-Ok.setup.jobs.items c.start_all-workers.result.items c.serve_all.new.outlets.items s.served.0 c.in-Ok.ensures.new c.start_all-workers.ensures.places s.lanes s.served.2

pub learn_as-requires-clause-rule : goal.learn_as-requires-clause-rule
learn_as-requires-clause-rule g c = compares _ _ (ap (λ v. v.gets) c.close-outs.ensures.pass.1)

pub returns-clause-served : goal.returns-clause-served
returns-clause-served g c = let s = c.serve_all.ensures in let d = c.close-outs.ensures in let l = c.learn_as.ensures in let o = c.in-Ok.ensures in
    let count = as_listed c.in-Ok.setup.hall c.in-Ok.setup.jobs.items (λ j. j.1.task) c.args.tasks.items o.new o.tasks in (
      s.served.0,
      all_served _ _ _ _ c.args.tasks.items c.start_all-workers.result.items c.serve_all.new.outlets.items _ c.close-outs.result.items _ l.rule.0 _ _ _ _ s.served.0 s.served.1 count (c.start_all-workers.ensures.tasks ∙ o.tasks) (s.lanes.0 ∙ count) s.served.2
          d.count d.closed (λ k low. l.rule.1 k low ∙ ap (λ x. requests_in k (x ++ l.rule.0)) (ap (λ v. v.got) d.pass.1)),
    )
