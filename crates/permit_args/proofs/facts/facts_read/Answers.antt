use Rattle.std.proofs.Common.{length, ap, arith, sym, tests}
use Rattle.std.proofs.lemmas.List.{length-map}
use Rattle.permit_args.specs.FactsText.{pieces}
use Rattle.permit_args.proofs.SixParts.{other_count}
use Rattle.permit_args.proofs.facts.facts_read.Goals as goal
use Rattle.permit_args.proofs.facts.facts_read.Goals.{in_default-via-then-as_slice-lt6, in_default-via-else-as_slice-lt6+else-this-lt7}

pub returns : goal.returns
returns c =
    let parts = ap length c.in_ok-parts.ensures in
    let same = length-map c.in_ok-parts.parts.items (λ x. x.now) in
    let slice = ap length c.as_slice.ensures.value in
    elim c.in_default.branch [
      | in_default-via-then-as_slice-lt6 w ↦ sym (other_count (pieces 44 c.args.text.now) (λ six. grind (arith, tests, parts, same, slice, six)))
      | in_default-via-else-as_slice-lt6+else-this-lt7 w ↦ sym (other_count (pieces 44 c.args.text.now) (λ six. grind (arith, tests, parts, same, slice, six)))
    ]
