use Rattle.std.proofs.Common.{rules, ap, ◌∙◌, ◌≡◌, refl, ◌+◌, [], length, map}
use Rattle.std.proofs.lemmas.List.{length-map}
use Rattle.permit_hall.specs.Intake.{owner}
use Rattle.permit_hall.proofs.IntakeMoves.{forks}
use Rattle.permit_hall.proofs.Moving.{moves_on, map_more}
use Rattle.permit_hall.proofs.Opening.{new_next}
use Rattle.permit_hall.proofs.hall.open.Goals as goal

pub another-pass-requires-clause-rule : goal.another-pass-requires-clause-rule
another-pass-requires-clause-rule g c = forks _ _ (ap (λ v. v.gets) c.loop-task.invariant.0.1)

pub loop-task-preserved : goal.loop-task-preserved
loop-task-preserved g c =
    let h = c.loop-task.hall in let new = c.loop-task.invariant.0 in let jobs = c.loop-task.jobs.items in
    let lane = c.in_ok-outlet.ensures in
    let len : length (map (λ j. j.0) jobs) ≡ c.len-number.result = search (rules, length-map) in (
      (new_next h (record h { pass = c.another-pass.new.pass; outlets = c.push.new.self }) (map (λ j. j.0) jobs)
          (map (λ j. j.0) c.push-in-loop-task.new.self.items) c.len-number.result c.in_ok-outlet.outlet c.in_ok-outlet.session
          new len (new.0.0, c.another-pass.ensures.channel.0) refl
          (c.another-pass.ensures.rule.0 ∙ (λ i. owner ((new.1 i).made + 1) ((new.1 i).got) ((new.1 i).known)) ∙ ap (λ k. owner (k + 1) [] []) len)
          c.in_ok-push.ensures.items (map_more (λ j. j.0) jobs c.push-in-loop-task.new.self.items
          (c.in_ok-outlet.session, c.in-Some.task) c.in_ok-push-2.ensures.items)
          lane.outlet lane.session.0 (lane.session.1, lane.session.2 ∙ c.in_ok-try_clone.ensures, lane.session.3)).0,
      moves_on (λ j. j.1) jobs c.push-in-loop-task.new.self.items (c.in_ok-outlet.session, c.in-Some.task) _ _ _ c.in_ok-push-2.ensures.items
          (search rules) c.loop-task.invariant.1,
    )
