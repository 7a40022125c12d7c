use Rattle.std.proofs.Common.{ap, refl}
use Rattle.permit_model.specs.Machine.{Listed}
use Rattle.permit_office.proofs.listing.list_files.Goals as goal

pub returns-clause-model : goal.returns-clause-model
returns-clause-model g c = λ doubt h is held. (ap Listed (c.in_ok-listing.ensures.files doubt h is held), refl)
