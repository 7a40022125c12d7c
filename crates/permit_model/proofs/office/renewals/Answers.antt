use Rattle.std.proofs.Common.{refl}
use Rattle.permit_model.proofs.office.renewals.Goals as goal

pub returns : goal.returns
returns c = record { tables = refl; inspector = refl; free = refl; missing = refl; taken = refl }
