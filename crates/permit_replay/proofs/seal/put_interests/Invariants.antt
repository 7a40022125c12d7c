use Rattle.std.proofs.Common.{take}
use Rattle.std.specs.List.{flat_map}
use Rattle.permit_replay.specs.Adding.{Adds}
use Rattle.permit_replay.specs.TablesText.{interest_line}
use Rattle.permit_replay.proofs.seal.put_interests.Given as goal

abbrev pub invariant-loop-interest : goal.invariant-loop-interest
invariant-loop-interest l = Adds (flat_map interest_line (take l.interest-index l.interests)) l.fn.hash l.hash
