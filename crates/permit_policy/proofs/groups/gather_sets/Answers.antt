use Rattle.std.proofs.Common.{ap, ◌∙◌}
use Rattle.permit_policy.specs.Masks.{only_where, has_set}
use Rattle.permit_policy.proofs.Bits.{set_in_none}
use Rattle.permit_policy.proofs.Gathering.{gathers_cell, gathers_none, some_number}
use Rattle.permit_policy.proofs.groups.gather_sets.Goals as goal

pub returns-then-sets-eq0 : goal.returns-then-sets-eq0
returns-then-sets-eq0 c =
    gathers_none c.args.cell _ _ c.args.groups.now.items
    (λ set. ap (λ n. only_where (has_set n set) 1) c.if-sets-eq0.true ∙ ap (λ b. only_where b 1) (set_in_none set))

pub returns : goal.returns
returns c =
    gathers_cell c.args.sets c.args.cell c.args.by.now c.args.was.now c.of_cell.result c.args.groups.now.items c.gather.new.groups.items
    c.ranges.sets.fits (some_number c.args.sets c.if-sets-eq0.false) c.of_cell.ensures c.in_ok-gather.ensures
