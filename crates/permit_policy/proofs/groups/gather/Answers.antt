use Rattle.std.proofs.Common.{◌≡◌, ap, sym, ◌∙◌, true, Some, None, position}
use Rattle.std.proofs.lemmas.List.Quantifiers.{position-Some}
use Rattle.permit_policy.specs.Groups.{can_join}
use Rattle.permit_policy.proofs.Gathering.{gathering_goes, gathering_ends}
use Rattle.permit_policy.proofs.groups.gather.Goals as goal

pub loop-place-preserved : goal.loop-place-preserved
loop-place-preserved c =
    let groups = c.loop-place.groups.items in
    let place = c.in-Some.place in
    let other = c.remove-other.result in
    let p = can_join c.loop-place.region c.args.by.now c.args.was.now in
    let found : position p groups ≡ Some place = ap (position p) (sym c.deref.ensures.value) ∙ sym c.in-Some.ensures in
    let at = position-Some p groups place other found in
    let joins : p other ≡ true = ap p c.remove-other.ensures.value ∙ at.1 in
    rw (c.joined-region.ensures, c.remove-other.ensures.items)
    (gathering_goes c.args.region c.args.by.now c.args.was.now c.args.groups.now.items c.loop-place.region groups place other at.0 c.remove-other.ensures.value joins c.loop-place.invariant)

pub returns : goal.returns
returns c =
    let groups = c.loop-place.groups.items in
    let p = can_join c.loop-place.region c.args.by.now c.args.was.now in
    let none : position p groups ≡ None = ap (position p) (sym c.deref.ensures.value) ∙ sym c.in_default.ensures in
    rw c.in_ok-push.ensures.items
    (gathering_ends c.args.region c.args.by.now c.args.was.now c.args.groups.now.items c.loop-place.region groups none c.loop-place.invariant)
