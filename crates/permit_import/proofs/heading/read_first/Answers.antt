use Rattle.std.proofs.Common.{[], inl}
use Rattle.std.proofs.lemmas.Bool.Decides.{when_true, when_false}
use Rattle.csv.specs.Records.{fields_of}
use Rattle.permit_import.proofs.HeadingLemmas.{first_read}
use Rattle.permit_import.proofs.heading.read_first.Goals as goal

pub returns-then-not-branch-clause-first : goal.returns-then-not-branch-clause-first
returns-then-not-branch-clause-first g c = λ left behind.
    inl (when_false _ _ c.if-not-branch.true (c.in_ok-read_next.ensures.next left [] behind), c.clear.ensures.fields)

pub returns-clause-first : goal.returns-clause-first
returns-clause-first g c = λ left behind.
    first_read g.R.Read.remaining left c.read_next.new.records (fields_of c.read_next.new.row) c.is_header.result c.is_header.ensures
    (when_true _ _ c.if-not-branch.false (c.in_ok-read_next.ensures.next left [] behind))
