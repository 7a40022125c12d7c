use Rattle.std.proofs.Common.{sym}
use Rattle.std.proofs.lemmas.Bool.{and_from}
use Rattle.permit_base.proofs.Letters.{IsPadded-name}
use Rattle.permit_base.proofs.values.RuleName.new.Goals as goal

pub invariant_of-result : goal.invariant_of-result
invariant_of-result c =
    let named = and_from _ _ (sym c.if-not-has_length.ensures) (sym c.if-not-are_of_name.ensures) in
    rw c.copy_from_slice.ensures.after (IsPadded-name c.as_bytes-bytes.result.now named)
