use Rattle.std.proofs.Common.{◌≡◌, drop}
use Rattle.permit_policy.proofs.Texts.{texts}
use Rattle.permit_reasons.specs.Lists.{repeated}
use Rattle.permit_reasons.proofs.lists.repeated.Given as goal

-- the texts that are left have the first that comes again
abbrev pub invariant-loop-i : goal.invariant-loop-i
invariant-loop-i l = repeated (texts (drop l.i l.values)) ≡ repeated (texts l.values)
