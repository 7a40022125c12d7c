use Rattle.std.proofs.Common.{◌≡◌, ◌<◌, ◌^◌, arith, ap, sym, ◌∙◌, decimal}
use Rattle.permit_args.proofs.Counted.{parsed, not_read, not_spelled, same_number}
use Rattle.permit_args.proofs.Unread.{refuses_by}
use Rattle.permit_args.proofs.found.count.Goals.{else-eq-via-then-eq+then-number-ge1+else-number-greatest, else-eq-via-then-eq+else-number-ge1}
use Rattle.permit_args.proofs.found.count.Goals.{else-eq-via-else-eq}
use Rattle.permit_args.proofs.found.count.Goals as goal

pub returns-in_default-clause-refused : goal.returns-in_default-clause-refused
returns-in_default-clause-refused c = refuses_by _ _ _ c.invalid.ensures (λ n is.
    let small : c.args.greatest < 2 ^ 32 = omega arith in
    let within : c.args.greatest < 2 ^ 64 = omega arith in
    let read = parsed 32 c.args.greatest c.args.text.now c.parse.result n small within c.parse.ensures.value.0 is in
    not_read c.parse.result _ n c.in_default.is read)

pub returns-clause-refused : goal.returns-clause-refused
returns-clause-refused c = refuses_by _ _ _ c.invalid-else-eq.ensures (λ n is.
    let small : c.args.greatest < 2 ^ 32 = omega arith in
    let within : c.args.greatest < 2 ^ 64 = omega arith in
    let read = parsed 32 c.args.greatest c.args.text.now c.parse.result n small within c.parse.ensures.value.0 is in
    let same : c.in-Ok.number ≡ n = same_number c.parse.result _ n c.in-Ok.is read in
    elim c.else-eq.branch [
      | else-eq-via-then-eq+then-number-ge1+else-number-greatest w ↦ omega (arith, same, w.if-number-greatest.false, is.most)
      | else-eq-via-then-eq+else-number-ge1 w ↦ omega (arith, same, w.if-number-ge1.false, is.least)
      | else-eq-via-else-eq w ↦ not_spelled _ _ _ c.eq.ensures w.if-eq.false
          (c.as_str.ensures.value ∙ c.in_ok-spelled.ensures.ok ∙ ap decimal same ∙ sym is.spelled)
    ])
