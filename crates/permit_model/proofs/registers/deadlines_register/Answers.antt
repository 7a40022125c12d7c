-- The digits of numbers are opened, so that the texts compute.
use Rattle.std.proofs.Common.{refl}
use Rattle.std.specs.Fmt.{digits}
use Rattle.permit_model.proofs.registers.deadlines_register.Goals as goal

pub returns : goal.returns
unfolding digits
returns c = record { on_the_day = refl; past = refl }
