use Rattle.permit_database.proofs.Exchanged.{import_runs}
use Rattle.permit_database.proofs.laws.an_importing_office_goes_on.Goals as goal

pub returns : goal.returns
returns g c = import_runs _ _
