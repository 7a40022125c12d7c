use Rattle.std.proofs.Common.{◌≡◌, ℕ, ◌<◌, length, get_or}
use Rattle.permit_model.specs.Policy.{Rule}
use Rattle.permit_policy.specs.Hits.{IsHit}
use Rattle.permit_policy.proofs.masks.hits_by_rule.Given as goal

-- the masks so far are those of the rules so far
abbrev pub invariant-loop-rule : goal.invariant-loop-rule
invariant-loop-rule l = record {
  count : length l.hits.items ≡ l.rule-index;
  each : (k : ℕ) → k < l.rule-index → (rule : Rule) → rule ≡ get_or l.rules k rule → IsHit l.role l.action rule (get_or l.hits.items k 0);
}
