use Rattle.permit_replay.proofs.Standing.{stands}
use Rattle.permit_replay.proofs.laws.what_is_refused_makes_no_history.Goals as goal

pub returns : goal.returns
returns c = stands
