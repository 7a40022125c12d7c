-- The new file of the history has the row that was made.
use Rattle.std.proofs.Common.{arith}
use Rattle.permit_core.proofs.RowMore.{filing_recorded}
use Rattle.permit_core.proofs.state.FileState.file.Goals as goal

pub returns-clause-recorded : goal.returns-clause-recorded
returns-clause-recorded c = grind (arith, filing_recorded)
