-- The laws are lemmas by induction on the history, and on how often a file is opened.
use Rattle.permit_model.proofs.FewFiles
use Rattle.permit_model.proofs.ReadCount.{few_opened}
use Rattle.permit_model.proofs.listing_laws.few_files.Goals as goal

pub returns-clause-files : goal.returns-clause-files
returns-clause-files c = FewFiles.few_files

pub returns-clause-opened : goal.returns-clause-opened
returns-clause-opened c = few_opened
