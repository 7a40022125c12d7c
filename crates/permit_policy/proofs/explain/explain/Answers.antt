use Rattle.std.proofs.Common.{true, false, ap}
use Rattle.permit_model.specs.Policy.{Rule}
use Rattle.permit_policy.specs.Explained.{explanation}
use Rattle.permit_policy.proofs.Explaining.{tried_more, tried_last, is_none_by, tried_is}
use Rattle.permit_policy.proofs.explain.explain.Goals as goal

pub loop-rule-preserved : goal.loop-rule-preserved
loop-rule-preserved c =
    let rules = c.in_order-rule-items.result.now in
    let facts = c.args.facts.now in
    let r = c.rule-item.result in
    let same = tried_is c.rule.inside.name c.failing_key-failing.result r facts (ap (λ (x : Rule). x.name) c.rule.view_is) c.failing_key-failing.ensures in
    tried_more rules facts c.loop-rule.rule-index r _ c.loop-rule.tried.items c.push.new.self.items
    (explanation c.args.policy.now facts) c.loop-rule-test.true c.rule-item.is same
    (is_none_by c.failing_key-failing.result true c.if-is_none.ensures) c.in_ok-push.ensures.items c.loop-rule.invariant

pub returns-then-is_none : goal.returns-then-is_none
returns-then-is_none c =
    let rules = c.in_order-rule-items.result.now in
    let facts = c.args.facts.now in
    let r = c.rule-item.result in
    let same = tried_is c.rule.inside.name c.failing_key-failing.result r facts (ap (λ (x : Rule). x.name) c.rule.view_is) c.failing_key-failing.ensures in
    record {
      exact = tried_last rules facts c.loop-rule.rule-index r _ c.loop-rule.tried.items c.push.new.self.items
          (explanation c.args.policy.now facts) c.loop-rule-test.true c.rule-item.is same
          (is_none_by c.failing_key-failing.result false c.if-is_none.ensures) c.in_ok-push.ensures.items c.loop-rule.invariant;
    }
