use Rattle.std.proofs.Common.{ℕ, List, ◌++◌, take}
use Rattle.permit_history.specs.LineEnds.{AreLineEndsOf, EndAt}
use Rattle.permit_history.proofs.settled.LineEnds.with.Given as goal

abbrev pub invariant-loop-i : goal.invariant-loop-i
invariant-loop-i l = (bytes : List ℕ) → AreLineEndsOf bytes l.fn.self → EndAt (bytes ++ take l.i l.piece) l.last l.settled
