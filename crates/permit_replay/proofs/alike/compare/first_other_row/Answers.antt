use Rattle.std.proofs.Common.{◌+◌, ◌∙◌, sym, arith}
use Rattle.std.proofs.lemmas.Bool.{false≢true}
use Rattle.permit_replay.specs.Comparing.{HaveSameRow}
use Rattle.permit_replay.proofs.Looking.{clean_before, looks_on}
use Rattle.permit_replay.proofs.Stepping.{all_same, first_other, same_more}
use Rattle.permit_replay.proofs.alike.compare.first_other_row.Goals as goal

pub loop-place-preserved : goal.loop-place-preserved
loop-place-preserved g c =
    let was = c.loop-place.invariant in
    let row = c.in_ok-same.ensures in
    record {
      first = looks_on was.first row.first;
      second = looks_on was.second row.second;
      failed = (row.answered.0 ∙ was.failed.0, row.answered.1 ∙ was.failed.1);
      same = λ d e t u h k. same_more (HaveSameRow c.args.table t u) c.loop-place.place (c.loop-place.place + 1) (omega arith)
          (was.same (clean_before row.first d) (clean_before row.second e) t u h k)
          ((row.same d e t u (was.first.kept t h) (was.second.kept u k)).0 c.if-not-same.false);
    }

pub returns-then-not-same-clause-found : goal.returns-then-not-same-clause-found
returns-then-not-same-clause-found g c = λ d e t u h k.
    let was = c.loop-place.invariant in
    let row = c.in_ok-same.ensures in
    first_other (HaveSameRow c.args.table t u) c.args.count c.loop-place.place (c.loop-place.place + 1) (omega arith) (omega (arith, c.loop-place-test.true))
    (was.same (clean_before row.first d) (clean_before row.second e) t u h k)
    (λ same. absurd (false≢true (sym c.if-not-same.true ∙ (row.same d e t u (was.first.kept t h) (was.second.kept u k)).1 same)))

pub returns-clause-found : goal.returns-clause-found
returns-clause-found g c = λ d e t u h k. all_same (HaveSameRow c.args.table t u) c.args.count c.loop-place.place c.loop-place-test.false
    (c.loop-place.invariant.same d e t u h k)
