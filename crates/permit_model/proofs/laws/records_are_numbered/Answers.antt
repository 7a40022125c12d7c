-- The laws are lemmas by induction on the history.
use Rattle.permit_model.proofs.Numbers.{parties_numbered, parcels_numbered, case_files_numbered, papers_numbered}
use Rattle.permit_model.proofs.laws.records_are_numbered.Goals as goal

pub returns-clause-parties : goal.returns-clause-parties
returns-clause-parties c = parties_numbered

pub returns-clause-parcels : goal.returns-clause-parcels
returns-clause-parcels c = parcels_numbered

pub returns-clause-files : goal.returns-clause-files
returns-clause-files c = case_files_numbered

pub returns-clause-papers : goal.returns-clause-papers
returns-clause-papers c = λ h id file is there. (papers_numbered h id file is there).0
