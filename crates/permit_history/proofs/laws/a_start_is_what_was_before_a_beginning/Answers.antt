use Rattle.std.proofs.Common.{refl}
use Rattle.permit_history.proofs.Beginnings.{meant_any, told_later}
use Rattle.permit_history.proofs.laws.a_start_is_what_was_before_a_beginning.Goals as goal

pub returns : goal.returns
returns c = record { founded = told_later; same = meant_any; begun = λ start day digest. refl }
