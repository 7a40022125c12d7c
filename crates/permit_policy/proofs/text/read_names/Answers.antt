use Rattle.std.proofs.Common.{arith}
use Rattle.permit_policy.proofs.Passes.{bad_name_here, none_only_if}
use Rattle.permit_policy.proofs.text.read_names.Goals as goal

pub returns-in-None-clause-err : goal.returns-in-None-clause-err
returns-in-None-clause-err c = grind (arith, none_only_if, bad_name_here)
