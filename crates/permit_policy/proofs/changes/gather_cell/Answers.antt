use Rattle.permit_policy.proofs.Changing.{pairs_next}
use Rattle.permit_policy.proofs.changes.gather_cell.Goals as goal

pub loop-share-preserved : goal.loop-share-preserved
loop-share-preserved c =
    pairs_next c.args.cell c.args.by.now c.args.was.now c.loop-share.share-index c.share-item.result c.args.groups.now.items c.loop-share.groups.items c.gather_share.new.groups.items
    c.loop-share-test.true c.share-item.is c.loop-share.invariant c.in_ok-gather_share.ensures
