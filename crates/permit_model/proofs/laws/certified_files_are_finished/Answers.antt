-- The laws are lemmas by induction on what was done to a file.
use Rattle.permit_model.proofs.FileLaws.{finaled_finished, certified_finished}
use Rattle.permit_model.proofs.laws.certified_files_are_finished.Goals as goal

pub returns-clause-finaled : goal.returns-clause-finaled
returns-clause-finaled c = finaled_finished

pub returns-clause-certified : goal.returns-clause-certified
returns-clause-certified c = certified_finished
