use Rattle.std.proofs.Common.{ℕ, List}
use Rattle.std.specs.Io.KnownBytes.{Consumes}
use Rattle.permit_history.specs.Prefixes.{IsPrefixOf}
use Rattle.permit_history.proofs.evidence.evidence_within.Given as goal

abbrev pub invariant-loop : goal.invariant-loop
invariant-loop g l = (bytes : List ℕ) × IsPrefixOf l.most bytes l.prefix × Consumes (g.R.Read.remaining l.fn.source) (g.R.Read.remaining l.source) bytes
