use Rattle.std.proofs.Common.{ℕ, List}
use Rattle.std.specs.Io.KnownBytes.{Consumes}
use Rattle.permit_history.specs.LineEnds.{AreLineEndsOf}
use Rattle.permit_history.proofs.settled.settled_length.Given as goal

abbrev pub invariant-loop : goal.invariant-loop
invariant-loop g l = (bytes : List ℕ) × AreLineEndsOf bytes l.ends × Consumes (g.R.Read.remaining l.fn.source) (g.R.Read.remaining l.source) bytes
