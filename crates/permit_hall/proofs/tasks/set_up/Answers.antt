use Rattle.std.proofs.Common.{ap, ◌∙◌, sym, map}
use Rattle.permit_hall.proofs.Moving.{map_map}
use Rattle.permit_hall.proofs.tasks.set_up.Goals as goal

pub returns-clause-tasks : goal.returns-clause-tasks
returns-clause-tasks g c = sym (map_map (λ j. j.1) (λ t. t.task) c.in_ok-hall.jobs.items) ∙ ap (λ l. map (λ t. t.task) l) c.in_ok-hall.ensures.tasks
    ∙ c.in_ok-prepare_all.ensures
