use Rattle.permit_routes.proofs.Spellings.{id_read, id_spelled}
use Rattle.permit_routes.proofs.laws.each_id_has_one_spelling.Goals as goal

pub returns-clause-read : goal.returns-clause-read
returns-clause-read c = id_read

pub returns-clause-spelled : goal.returns-clause-spelled
returns-clause-spelled c = id_spelled
