use Rattle.permit_policy.specs.Changes.{GathersPairs}
use Rattle.permit_policy.specs.Hits.{AreHits}
use Rattle.permit_policy.specs.Shares.{decided_for}
use Rattle.permit_policy.proofs.Changing.{covers_none, covers_next, covers_all}
use Rattle.permit_policy.proofs.changes.groups_of.Goals as goal

pub loop-number-init : goal.loop-number-init
loop-number-init c = covers_none _ _ _ c.new-groups.ensures.items

pub loop-number-preserved : goal.loop-number-preserved
loop-number-preserved c =
    let rules = c.args.rules.now in
    let others = c.args.others.now in
    let role = c.args.role in
    let action = c.args.action in
    let here = c.numbered-cell.result in
    let by = c.in_ok-by.by.items in
    let was = c.in_ok-was.was'.items in
    let hits : AreHits role action rules c.deref.result.now = rw c.deref.ensures.value c.in_ok-hits.ensures in
    let other_hits : AreHits role action others c.deref-in-loop-number.result.now = rw c.deref-in-loop-number.ensures.value c.in_ok-other_hits.ensures in
    let gathered : GathersPairs here by was c.loop-number.groups.items c.gather_cell.new.groups.items =
    rw (← c.deref-in-loop-number-2.ensures.value, ← c.deref-in-loop-number-3.ensures.value) c.in_ok-gather_cell.ensures in
    covers_next (decided_for rules role action) (decided_for others role action) c.loop-number.number here by was c.loop-number.groups.items c.gather_cell.new.groups.items
    c.loop-number-test.true c.numbered-cell.ensures c.in_ok-by.ensures.once c.in_ok-was.ensures.once
    (c.in_ok-by.ensures.told role action hits) (c.in_ok-was.ensures.told role action other_hits) c.loop-number.invariant gathered

pub returns : goal.returns
returns c = covers_all _ _ c.loop-number.number _ c.loop-number-test.false c.loop-number.invariant
