use Rattle.std.proofs.Common.{arith}
use Rattle.permit_policy.proofs.Passes.{place_here, none_unless}
use Rattle.permit_policy.proofs.text.read_effects.Goals as goal

pub returns-in-None-clause-err : goal.returns-in-None-clause-err
returns-in-None-clause-err c = grind (arith, none_unless, place_here)
