use Rattle.permit_history.proofs.OneText.{read_line_written}
use Rattle.permit_history.proofs.laws.what_is_read_was_written.Goals as goal

pub returns : goal.returns
returns c = read_line_written
