use Rattle.std.proofs.Common.{refl, sym, ◌∙◌}
use Rattle.permit_policy.proofs.Fitting.{alone_within, leaves_all, leaves_next, leaves_skip, number_fits}
use Rattle.permit_policy.proofs.patterns.patterns.Goals as goal
use Rattle.permit_policy.proofs.patterns.patterns.Goals.{then-has_bit+in_ok-push, else-has_bit}

pub loop-number-preserved : goal.loop-number-preserved
loop-number-preserved c =
    let mask = c.args.mask in
    let number = c.loop-number.number in
    let left = c.loop-number.left in
    let patterns = c.loop-number.patterns.items in
    elim c.if-has_bit.branch [
      | then-has_bit+in_ok-push w ↦
          let alone = alone_within mask number left patterns w.exactly.result c.loop-number-test.true (sym c.has_bit.ensures ∙ w.if-has_bit.true) c.loop-number.invariant w.exactly.ensures in
          rw (w.patterns-is, w.left-is, w.in_ok-push.ensures.items)
          (leaves_next mask number left w.sets.result _ w.widest-pattern.result patterns w.sets.type_inv refl w.sets.ensures
          (number_fits number w.exactly.result w.widest-pattern.result w.exactly.ensures w.widest-pattern.ensures.wider) (w.widest-pattern.ensures.within alone) c.loop-number.invariant)
      | else-has_bit w ↦ rw (w.patterns-is, w.left-is) (leaves_skip mask number left patterns (sym c.has_bit.ensures ∙ w.if-has_bit.false) c.loop-number.invariant)
    ]

pub returns : goal.returns
returns c = leaves_all c.args.mask c.loop-number.number c.loop-number.left c.loop-number.patterns.items c.loop-number-test.false c.loop-number.invariant
