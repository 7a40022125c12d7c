use Rattle.permit_policy.specs.Hits.{IsHit}
use Rattle.permit_policy.proofs.Deciding.{OfRule, of_rule, one_mask_more, count_more}
use Rattle.permit_policy.proofs.masks.hits_by_rule.Goals as goal

pub loop-rule-preserved : goal.loop-rule-preserved
loop-rule-preserved c =
    let rules = c.args.rules.now in
    let i = c.loop-rule.rule-index in
    let old = c.loop-rule.hits.items in
    let new = c.push.new.self.items in
    let mask = c.hits_of.result in
    let hit = IsHit c.args.role c.args.action in
    record {
      count = count_more old new i mask c.loop-rule.invariant.count c.in_ok-push.ensures.items;
      each = one_mask_more (OfRule hit rules) old new i mask c.loop-rule.invariant.count
          (of_rule hit rules i c.rule-item.result mask c.loop-rule-test.true c.rule-item.is c.hits_of.ensures) c.in_ok-push.ensures.items c.loop-rule.invariant.each;
    }
