use Rattle.permit_policy.proofs.Changing.{pair_unlike}
use Rattle.permit_policy.proofs.changes.gather_pair.Goals as goal

pub returns : goal.returns
returns c =
    pair_unlike c.args.cell c.args.by.now c.args.was.now c.args.groups.now.items c.gather_sets.new.groups.items
    (rw (c.is_allow.ensures, c.is_allow-2.ensures) at c.if-is_allow.false) c.in_ok-gather_sets.ensures
