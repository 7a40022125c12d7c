use Rattle.std.proofs.Common.{◌≡◌, ◌++◌, drop}
use Rattle.permit_policy.specs.Explained.{explanation}
use Rattle.permit_policy.proofs.explain.explain.Given as goal

-- what was said so far, and what is to be said of the rules that are left
abbrev pub invariant-loop-rule : goal.invariant-loop-rule
invariant-loop-rule l = l.tried.items ++ explanation (drop l.rule-index l.rule-items) l.facts ≡ explanation l.policy l.facts
