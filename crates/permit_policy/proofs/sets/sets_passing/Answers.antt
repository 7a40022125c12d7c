use Rattle.permit_policy.proofs.RelationSets.{in_both}
use Rattle.permit_policy.proofs.sets.sets_passing.Goals as goal

pub returns-in-Both : goal.returns-in-Both
returns-in-Both c = λ set. rw c.in-Both.is (in_both set _ _ _ _ (c.sets_with.ensures set) (c.sets_with-in-Both.ensures set))
