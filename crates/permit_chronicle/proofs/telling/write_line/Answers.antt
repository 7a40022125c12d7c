use Rattle.permit_report.proofs.Writes.{front_of_none}
use Rattle.permit_chronicle.proofs.Parts.{line_some}
use Rattle.permit_chronicle.proofs.telling.write_line.Goals as goal

pub returns-in_default-clause-front : goal.returns-in_default-clause-front
returns-in_default-clause-front g c = front_of_none _ _ (line_some c.args.role c.args.entry.now)
