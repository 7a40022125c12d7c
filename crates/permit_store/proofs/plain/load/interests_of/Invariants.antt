use Rattle.std.proofs.Common.{◌≡◌, take}
use Rattle.permit_store.proofs.plain.load.interests_of.Given as goal

abbrev pub invariant-loop-interest : goal.invariant-loop-interest
invariant-loop-interest l = l.interests.rows.items ≡ take l.interest-index l.declared
