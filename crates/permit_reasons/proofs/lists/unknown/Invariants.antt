use Rattle.std.proofs.Common.{◌≡◌, drop, not}
use Rattle.std.specs.List.{find}
use Rattle.permit_policy.proofs.Texts.{texts}
use Rattle.permit_reasons.specs.Lists.{is_taken}
use Rattle.permit_reasons.proofs.lists.unknown.Given as goal

-- the texts that are left have the first that is no word
abbrev pub invariant-loop-value : goal.invariant-loop-value
invariant-loop-value l =
    find (λ t. not (is_taken l.key t)) (texts (drop l.value-index l.values)) ≡ find (λ t. not (is_taken l.key t)) (texts l.values)
