use Rattle.permit_database.proofs.Exchanged.{served_runs}
use Rattle.permit_database.proofs.laws.a_served_office_goes_on.Goals as goal

pub returns : goal.returns
returns g c = served_runs _ _
