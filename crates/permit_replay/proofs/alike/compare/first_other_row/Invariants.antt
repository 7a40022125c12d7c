use Rattle.permit_replay.specs.Comparing.{HaveSameRow, Looks, NeitherFailed, OverBoth}
use Rattle.permit_replay.specs.Differing.{HaveSame}
use Rattle.permit_replay.proofs.alike.compare.first_other_row.Given as goal

abbrev pub invariant-loop-place : goal.invariant-loop-place
invariant-loop-place g l = record {
  first : Looks (g.A.Store.view l.fn.first) (g.A.Store.view l.first);
  second : Looks (g.B.Store.view l.fn.second) (g.B.Store.view l.second);
  failed : NeitherFailed (g.A.Store.view l.fn.first) (g.A.Store.view l.first) (g.B.Store.view l.fn.second) (g.B.Store.view l.second);
  same : OverBoth (g.A.Store.view l.fn.first) (g.A.Store.view l.first) (g.B.Store.view l.fn.second) (g.B.Store.view l.second)
      (λ t u. HaveSame l.place (HaveSameRow l.table t u));
}
