use Rattle.std.proofs.Common.{◌≡◌, ◌≤◌, ◌++◌, List, take}
use Rattle.permit_history.specs.declared.entry.Entry.{Entry}
use Rattle.permit_replay.specs.Alike.{unordered}
use Rattle.permit_store.specs.contracts.plain.PlainStoreStore.TheImpl as plain
use Rattle.permit_replay.specs.declared.beginning.Beginning.{Beginning}
use Rattle.permit_replay.specs.Holding.{IsBeginning}
use Rattle.permit_replay.specs.Bringing.{Stands}
use Rattle.permit_replay.proofs.opening.redoing.follow_all.Given as goal

abbrev pub invariant-loop-entry : goal.invariant-loop-entry
invariant-loop-entry g l =
    ((g.D.Store.view l.fn.store.store).doubt ≤ (g.D.Store.view l.store.store).doubt)
    × ((g.D.Store.view l.store.store).doubt ≡ 0 → (beginning : Beginning) (done : List Entry)
    → Stands (IsBeginning plain.view-value.it beginning) (unordered (g.D.Store.view l.fn.store.store)).holds done
    → Stands (IsBeginning plain.view-value.it beginning) (unordered (g.D.Store.view l.store.store)).holds (done ++ take l.entry-index l.entries))
