use Rattle.std.proofs.Common.{◌≡◌, drop}
use Rattle.permit_model.specs.Admission.{first_failing}
use Rattle.permit_core.proofs.admit.first_failing.Given as goal

abbrev pub invariant-loop-fails : goal.invariant-loop-fails
invariant-loop-fails l = first_failing l.tests ≡ first_failing (drop l.fails-index l.tests)
