use Rattle.std.proofs.Common.{◌≡◌, ◌==◌, ◌<◌, ap, sym, ◌∙◌, true, not, length, arith}
use Rattle.permit_model.specs.Opened.{cell_facts}
use Rattle.permit_policy.specs.Masks.{has_set}
use Rattle.permit_policy.specs.Dead.{deciding}
use Rattle.permit_policy.specs.Marks.{is_marked}
use Rattle.permit_policy.proofs.Bits.{set_in_every}
use Rattle.permit_policy.proofs.Marking.{Decides, passes_start, passes_end, step_passes, step_live, marks_kept, marks_sound}
use Rattle.permit_policy.proofs.MarkSteps.{same_facts}
use Rattle.permit_policy.proofs.dead.mark_in_cell.Goals as goal

pub loop-place-init : goal.loop-place-init
loop-place-init c = grind (arith, passes_start, set_in_every)

pub loop-place-preserved : goal.loop-place-preserved
loop-place-preserved c =
    let rules = c.args.rules.now in
    let i = c.loop-place.place in
    let marks = c.loop-place.live in
    let rule = c.index-rules-place.result in
    let decided = c.decided_by-decided.result in
    let within : i < length marks = omega arith in
    record {
      kept = λ k e. marks_kept marks i (not (decided == 0)) k within (c.loop-place.invariant.kept k e);
      sound = λ role action hits k e.
          let here : Decides rules i rule role action c.args.cell _ c.loop-place.undecided decided =
          record {
            within = c.loop-place-test.true;
            here = c.index-rules-place.is;
            fits = c.decided_by-decided.type_inv;
            hit = hits.each i c.loop-place-test.true rule c.index-rules-place.is;
            made = c.decided_by-decided.ensures;
          } in
          let live = step_live rules i rule role action c.args.cell _ c.loop-place.undecided decided marks here
          (c.loop-place.invariant.passes role action hits) in
          marks_sound rules (is_marked c.args.live.now k ≡ true) marks i (not (decided == 0)) k within (c.loop-place.invariant.sound role action hits k) live e;
      passes = λ role action hits one.
          let here : Decides rules i rule role action c.args.cell _ c.loop-place.undecided decided =
          record {
            within = c.loop-place-test.true;
            here = c.index-rules-place.is;
            fits = c.decided_by-decided.type_inv;
            hit = hits.each i c.loop-place-test.true rule c.index-rules-place.is;
            made = c.decided_by-decided.ensures;
          } in
          step_passes rules i rule role action c.args.cell _ c.loop-place.undecided decided marks one here within
          (c.loop-place.invariant.passes role action hits one);
    }

pub returns : goal.returns
returns c = λ role action hits. record {
  kept = c.loop-place.invariant.kept;
  sound = c.loop-place.invariant.sound role action hits;
  whole = λ facts seen k e.
      let one = facts.relations in
      let decides = sym (ap (deciding c.args.rules.now) (same_facts role action c.args.cell facts seen)) ∙ e in
      passes_end c.args.rules.now c.loop-place.place (cell_facts role action c.args.cell one)
      (has_set c.loop-place.undecided one) c.loop-place.live c.loop-place-test.false (c.loop-place.invariant.passes role action hits one) k decides;
}
