use Rattle.permit_history.proofs.FineLines.{line_short}
use Rattle.permit_history.proofs.OneText.{line_read, line_utf8}
use Rattle.permit_history.proofs.laws.what_is_written_is_read.Goals as goal

pub returns : goal.returns
returns c = record { read = line_read; short = line_short; utf8 = line_utf8 }
