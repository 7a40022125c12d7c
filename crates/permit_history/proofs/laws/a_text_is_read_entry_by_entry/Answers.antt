use Rattle.permit_history.proofs.LineByLine.{gives_all, gives_only, ends}
use Rattle.permit_history.proofs.laws.a_text_is_read_entry_by_entry.Goals as goal

pub returns : goal.returns
returns c = record { all = gives_all; only = gives_only; end = ends }
