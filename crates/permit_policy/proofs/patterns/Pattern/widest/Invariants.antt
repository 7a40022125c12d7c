use Rattle.std.proofs.Common.{◌≡◌, true}
use Rattle.permit_base.specs.declared.words.Relations.{Relations}
use Rattle.permit_policy.specs.Masks.{has_set}
use Rattle.permit_policy.specs.Patterns.{fits}
use Rattle.permit_policy.proofs.patterns.Pattern.widest.Given as goal

abbrev pub invariant-loop-relation : goal.invariant-loop-relation
invariant-loop-relation l = record {
  wider : (set : Relations) → fits l.self set ≡ true → fits l.pattern set ≡ true;
  within : ((set : Relations) → fits l.self set ≡ true → has_set l.fn.mask set ≡ true) → (set : Relations) → fits l.pattern set ≡ true → has_set l.fn.mask set ≡ true;
}
