use Rattle.std.proofs.Common.{◌≡◌, ◌++◌}
use Rattle.permit_store.proofs.plain.find.copy_papers.Given as goal

abbrev pub invariant-loop-paper : goal.invariant-loop-paper
invariant-loop-paper l = l.copies.items ++ l.paper-iterator ≡ l.papers
