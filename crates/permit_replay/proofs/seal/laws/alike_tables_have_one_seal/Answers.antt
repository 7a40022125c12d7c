use Rattle.permit_replay.proofs.OneSeal.{one_seal}
use Rattle.permit_replay.proofs.seal.laws.alike_tables_have_one_seal.Goals as goal

pub returns : goal.returns
returns c = λ t u one other same first second. one_seal t u same one other first second
