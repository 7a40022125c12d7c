use Rattle.std.proofs.Common.{◌≡◌, ℕ, List, Some}
use Rattle.permit_store.specs.Frames.{OverTables}
use Rattle.permit_store.specs.contracts.plain.PlainStoreStore.TheImpl as plain
use Rattle.permit_replay.specs.Comparing.{Looks}
use Rattle.permit_replay.specs.Holding.{IsBeginning}
use Rattle.permit_replay.proofs.Placed.{IsPlaced}
use Rattle.permit_replay.proofs.opening.placing.find_place.Given as goal

abbrev pub invariant-loop-line : goal.invariant-loop-line
invariant-loop-line g l = record {
  looks : Looks (g.S.Store.view l.fn.store) (g.S.Store.view l.store);
  desk : OverTables (g.S.Store.view l.fn.store) (g.S.Store.view l.store) (λ t. t.desk ≡ l.desk);
  placed : (bytes : List ℕ) → g.R.Read.remaining l.fn.source ≡ Some bytes
      → IsPlaced plain.view-value.it (IsBeginning plain.view-value.it l.fn.beginning) bytes (g.R.Read.remaining l.source) l.line l.replayed
      (g.S.Store.view l.fn.store) (g.S.Store.view l.store) l.place;
}
