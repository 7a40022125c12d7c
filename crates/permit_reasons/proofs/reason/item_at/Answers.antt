use Rattle.permit_reasons.proofs.Keys.{item-view}
use Rattle.permit_reasons.proofs.reason.item_at.Goals as goal

pub returns : goal.returns
returns c = item-view c.args.values.now c.args.index c.get.result c.get.ensures.lookup
