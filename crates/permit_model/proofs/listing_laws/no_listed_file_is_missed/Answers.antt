-- The laws are lemmas on how many selections find a row.
use Rattle.permit_model.proofs.NoneMissed.{none_missed, found_meets}
use Rattle.permit_model.proofs.listing_laws.no_listed_file_is_missed.Goals as goal

pub returns-clause-found : goal.returns-clause-found
returns-clause-found c = none_missed

pub returns-clause-wanted : goal.returns-clause-wanted
returns-clause-wanted c = found_meets
