use Rattle.permit_office.proofs.ListingSelections.{selections_find}
use Rattle.permit_office.proofs.laws.selections_open_what_routes_open.Goals as goal

pub returns : goal.returns
returns c = selections_find
