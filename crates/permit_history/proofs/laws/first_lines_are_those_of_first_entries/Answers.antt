use Rattle.permit_history.proofs.FirstEntries.{first_entries}
use Rattle.permit_history.proofs.FirstLines.{lines_of-append}
use Rattle.permit_history.proofs.laws.first_lines_are_those_of_first_entries.Goals as goal

pub returns : goal.returns
returns c = record { entries = first_entries; appended = lines_of-append }
