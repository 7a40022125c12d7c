use Rattle.permit_chronicle.proofs.Parts.{line_is}
use Rattle.permit_chronicle.proofs.line.line.Goals as goal

pub returns : goal.returns
returns c = line_is c.args.role c.args.entry.now _ _ _ c.in_ok-text.ensures c.in_ok-push_told.ensures c.in_ok-end_line.ensures
