use Rattle.std.proofs.Common.{ap, ◌∙◌, ◌&&◌}
use Rattle.permit_model.specs.Policy.{Rule, is_allow}
use Rattle.permit_policy.specs.Masks.{has_set}
use Rattle.permit_policy.proofs.Bits.{set_in_every, set_in_none}
use Rattle.permit_policy.proofs.Deciding.{follows_start, follows_next}
use Rattle.permit_policy.proofs.masks.allowed_in.Goals as goal

pub loop-place-init : goal.loop-place-init
loop-place-init c = λ role action hits set. follows_start _ _ _ _ (set_in_every set) (set_in_none set)

pub loop-place-preserved : goal.loop-place-preserved
loop-place-preserved c = λ role action hits set.
    let decided = c.decided_by-decided.result in
    let effect = ap (λ (r : Rule). is_allow r.effect && has_set decided set) c.rule.view_is in
    follows_next c.args.rules.now c.loop-place.place c.index-rules-place.result role action c.args.cell set _ c.loop-place.undecided c.loop-place.allowed decided c.allowed_by-allowed.result
    c.loop-place-test.true c.index-rules-place.is c.decided_by-decided.type_inv
    (hits.each c.loop-place.place c.loop-place-test.true c.index-rules-place.result c.index-rules-place.is)
    (c.decided_by-decided.ensures set)
    (c.allowed_by-allowed.ensures set ∙ effect)
    (c.loop-place.invariant role action hits set)
