use Rattle.std.proofs.Common.{arith}
use Rattle.permit_model.proofs.FileLaws.{certified_finished}
use Rattle.permit_core.proofs.RowSounds.{certified_facts}
use Rattle.permit_core.proofs.state.FileState.is_certified.Goals as goal

pub returns-clause-model : goal.returns-clause-model
returns-clause-model c h id file is there row certified = grind (arith, certified_finished)

pub returns-clause-steps : goal.returns-clause-steps
returns-clause-steps c certified = grind (arith, certified_facts)

pub returns-clause-notices : goal.returns-clause-notices
returns-clause-notices c certified = grind (arith, certified_facts)

pub returns-clause-stopped : goal.returns-clause-stopped
returns-clause-stopped c certified = grind arith
