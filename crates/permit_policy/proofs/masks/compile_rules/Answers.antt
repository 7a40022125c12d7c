use Rattle.std.proofs.Common.{◌<◌, refl, arith}
use Rattle.permit_policy.specs.Masks.{cell_number}
use Rattle.permit_policy.proofs.CellNumbers.{cell_below}
use Rattle.permit_policy.proofs.Deciding.{OfCell, of_cell, one_mask_more, count_more, counted}
use Rattle.permit_policy.proofs.masks.compile_rules.Goals as goal

pub loop-number-preserved : goal.loop-number-preserved
loop-number-preserved c =
    let n = c.loop-number.number in
    let old = c.loop-number.words.items in
    let new = c.push.new.self.items in
    let word = c.allowed_in.result in
    let role = c.args.role in
    let action = c.args.action in
    let rules = c.args.rules.now in
    let here = of_cell rules rules role action c.in_ok-hits.hits.items c.deref.result.now n word c.numbered.result refl c.deref.ensures.value c.in_ok-hits.ensures c.numbered.ensures c.allowed_in.ensures in
    record {
      count = count_more old new n word c.loop-number.invariant.count c.in_ok-push.ensures.items;
      each = one_mask_more (OfCell rules role action) old new n word c.loop-number.invariant.count here c.in_ok-push.ensures.items c.loop-number.invariant.each;
    }

pub returns : goal.returns
returns c = record {
  exact = λ cell set.
      let known = cell_below cell in
      let below : cell_number cell < c.loop-number.number = omega arith in
      c.loop-number.invariant.each (cell_number cell) below cell refl set;
}

pub invariant_of-result : goal.invariant_of-result
invariant_of-result c =
    counted c.loop-number.words.items c.loop-number.number 112 c.loop-number.invariant.count c.loop-number-test.false c.loop-number.auto.number-end
