use Rattle.std.proofs.Common.{ap}
use Rattle.permit_model.specs.Tables.{tables}
use Rattle.permit_model.proofs.Repeated.{ran_twice}
use Rattle.permit_model.proofs.laws.parcels_are_added_once.Goals as goal

pub returns-clause-history : goal.returns-clause-history
returns-clause-history c = ran_twice

pub returns-clause-tables : goal.returns-clause-tables
returns-clause-tables c = λ policy h token day wanted. ap tables (ran_twice policy h token day wanted)
