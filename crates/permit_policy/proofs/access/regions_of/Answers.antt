use Rattle.std.proofs.Common.{◌∙◌, ap, sym, map, subst, List}
use Rattle.permit_policy.specs.Access.{AreAllowed}
use Rattle.permit_policy.specs.Masks.{may}
use Rattle.permit_policy.specs.declared.groups.Group.{Group}
use Rattle.permit_policy.specs.declared.region.Region.{Region}
use Rattle.permit_policy.proofs.Allowing.{allows_none, allows_next, all_allowed}
use Rattle.permit_policy.proofs.access.regions_of.Goals as goal

pub loop-number-init : goal.loop-number-init
loop-number-init c = allows_none _ _ _ c.new-groups.ensures.items

pub loop-number-preserved : goal.loop-number-preserved
loop-number-preserved c =
    allows_next c.args.masks.now _ c.loop-number.number c.numbered-cell.result c.word.result c.loop-number.groups.items c.gather_sets.new.groups.items
    c.loop-number-test.true c.numbered-cell.ensures c.word.ensures c.loop-number.invariant c.in_ok-gather_sets.ensures

pub returns : goal.returns
returns c =
    let P : List Region → Type 0 = AreAllowed (may c.args.masks.now) in
    subst P (ap (map (λ (group : Group). group.region)) (sym c.deref.ensures.value) ∙ sym c.in_ok-regions.ensures)
    (all_allowed c.args.masks.now _ c.loop-number.number c.loop-number.groups.items c.loop-number-test.false c.loop-number.invariant)
