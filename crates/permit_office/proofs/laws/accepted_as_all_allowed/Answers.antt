use Rattle.permit_office.proofs.Allowed.{as_allowed}
use Rattle.permit_office.proofs.laws.accepted_as_all_allowed.Goals as goal

pub returns : goal.returns
returns c = λ policy h digest caller asked day all command known. as_allowed policy all h day caller digest asked command known
