use Rattle.permit_store.specs.Frames.{OverTables}
use Rattle.permit_replay.specs.Comparing.{Looks, NoneFailed}
use Rattle.permit_replay.specs.Adding.{Adds}
use Rattle.permit_replay.specs.Numbered.{numbers_text, row_text}
use Rattle.permit_replay.proofs.seal.put_rows.Given as goal

abbrev pub invariant-loop-place : goal.invariant-loop-place
invariant-loop-place g l = record {
  looks : Looks (g.S.Store.view l.fn.store) (g.S.Store.view l.store);
  failed : NoneFailed (g.S.Store.view l.fn.store) (g.S.Store.view l.store);
  put : OverTables (g.S.Store.view l.fn.store) (g.S.Store.view l.store) (λ t. Adds (numbers_text (row_text l.table t) l.place) l.fn.hash l.hash);
}
