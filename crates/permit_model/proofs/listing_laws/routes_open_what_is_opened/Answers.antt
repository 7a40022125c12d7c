-- The laws are lemmas on how many selections find a row, and how often it may be opened.
use Rattle.permit_model.proofs.ReadCount.{same_rows, same_sum}
use Rattle.permit_model.proofs.listing_laws.routes_open_what_is_opened.Goals as goal

pub returns-clause-rows : goal.returns-clause-rows
returns-clause-rows c = same_rows

pub returns-clause-count : goal.returns-clause-count
returns-clause-count c = same_sum
