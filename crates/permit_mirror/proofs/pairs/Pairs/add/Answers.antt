use Rattle.permit_mirror.proofs.Ordered.{stays, was_or_added}
use Rattle.permit_mirror.proofs.pairs.Pairs.add.Goals as goal

pub returns-in-Ok-clause-grown : goal.returns-in-Ok-clause-grown
returns-in-Ok-clause-grown c = λ key number was. stays (c.args.key, c.args.number) (key, number) _ _ (c.in-Ok.ensures.updates.0 (key, number)) was

pub returns-in-Ok-clause-only : goal.returns-in-Ok-clause-only
returns-in-Ok-clause-only c = λ k n there. was_or_added (c.args.key, c.args.number) (k, n) _ _ (c.in-Ok.ensures.updates.0 (k, n)) there
