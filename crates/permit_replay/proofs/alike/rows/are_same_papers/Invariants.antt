use Rattle.std.proofs.Common.{◌≡◌, take}
use Rattle.permit_replay.proofs.alike.rows.are_same_papers.Given as goal

abbrev pub invariant-loop-place : goal.invariant-loop-place
invariant-loop-place l = take l.place l.first ≡ take l.place l.second
