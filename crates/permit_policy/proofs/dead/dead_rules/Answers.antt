use Rattle.std.proofs.Common.{◌<◌, ap, ◌∙◌, length, arith}
use Rattle.permit_model.specs.Policy.{Rule}
use Rattle.permit_policy.proofs.DeadNames.{mark_is, is_live, is_dead, name_left, name_more, names_end}
use Rattle.permit_policy.proofs.dead.dead_rules.Goals as goal
use Rattle.permit_policy.proofs.dead.dead_rules.Goals.{then-not-index+in_ok-push, else-not-index}

pub loop-place-init : goal.loop-place-init
loop-place-init c = rw c.new-names.ensures.items (λ rest d. d)

pub loop-place-preserved : goal.loop-place-preserved
loop-place-preserved c =
    let rules = c.in_order-rules.result.now in
    let marks = c.in_ok-live.live.items in
    let i = c.loop-place.place in
    let rule = c.index-rules-place.result in
    let lt = c.loop-place-test.true in
    let count = c.in_ok-live.ensures.0 in
    let within : i < length marks = omega arith in
    let mark = mark_is marks i c.index.result.now within c.index.ensures in
    elim c.if-not-index.branch [
      | then-not-index+in_ok-push w ↦
          let dead = is_dead rules marks i c.in_ok-live.ensures.1 (mark ∙ w.if-not-index.true) in
          rw w.names-is (name_more rules i rule c.loop-place.names.items w.push.new.self.items c.rule.inside.name lt c.index-rules-place.is
          (ap (λ (r : Rule). r.name) c.rule.view_is) w.in_ok-push.ensures.items dead c.loop-place.invariant)
      | else-not-index w ↦
          let live = is_live rules marks i c.in_ok-live.ensures.1 (mark ∙ w.if-not-index.false) in
          rw w.names-is (name_left rules i rule c.loop-place.names.items lt c.index-rules-place.is live c.loop-place.invariant)
    ]

pub returns : goal.returns
returns c = record {
  exact =
      rw (← c.in_order-rules.ensures)
      (names_end c.in_order-rules.result.now c.loop-place.place c.loop-place.names.items c.loop-place-test.false c.loop-place.invariant);
}
