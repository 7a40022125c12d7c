use Rattle.std.proofs.Common.{refl, []}
use Rattle.permit_database.specs.Founding.{first_entries}
use Rattle.permit_database.proofs.laws.a_beginning_tells_its_history.Goals as goal

pub returns : goal.returns
returns c = λ founder. ([], first_entries founder, refl, refl)
