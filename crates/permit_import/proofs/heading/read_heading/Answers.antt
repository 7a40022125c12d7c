use Rattle.std.proofs.lemmas.Bool.Decides.{when_true, when_false}
use Rattle.csv.specs.Records.{fields_of}
use Rattle.permit_import.proofs.heading.read_heading.Goals as goal

pub returns-then-branch-clause-reads : goal.returns-then-branch-clause-reads
returns-then-branch-clause-reads g c = λ left behind. when_true _ _ c.if-branch.true (c.in_ok-read_first.ensures.first left behind)

pub returns-else-branch-clause-headless : goal.returns-else-branch-clause-headless
returns-else-branch-clause-headless g c = λ left behind.
    (fields_of c.read_first.new.row, when_false _ _ c.if-branch.false (c.in_ok-read_first.ensures.first left behind))
