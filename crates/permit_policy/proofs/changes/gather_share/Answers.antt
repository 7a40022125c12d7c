use Rattle.permit_policy.proofs.Changing.{others_next}
use Rattle.permit_policy.proofs.changes.gather_share.Goals as goal

pub loop-other-preserved : goal.loop-other-preserved
loop-other-preserved c =
    others_next c.args.cell c.args.by.now c.args.was.now c.loop-other.other-index c.other-item.result c.args.groups.now.items c.loop-other.groups.items c.gather_pair.new.groups.items
    c.loop-other-test.true c.other-item.is c.loop-other.invariant c.in_ok-gather_pair.ensures
