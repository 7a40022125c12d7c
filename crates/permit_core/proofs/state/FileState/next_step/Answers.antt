use Rattle.std.proofs.Common.{arith}
use Rattle.permit_core.proofs.SameReasons.{next_is}
use Rattle.permit_core.proofs.state.FileState.next_step.Goals as goal

pub returns-clause-model : goal.returns-clause-model
returns-clause-model c h id file is there row = grind (arith, next_is)
