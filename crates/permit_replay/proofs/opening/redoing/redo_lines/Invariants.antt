use Rattle.std.proofs.Common.{◌≡◌, ◌≤◌, ◌+◌, ℕ, List, length}
use Rattle.permit_history.specs.declared.entry.Entry.{Entry}
use Rattle.permit_replay.specs.Alike.{unordered}
use Rattle.permit_store.specs.contracts.plain.PlainStoreStore.TheImpl as plain
use Rattle.permit_replay.specs.declared.beginning.Beginning.{Beginning}
use Rattle.permit_replay.specs.Holding.{IsBeginning}
use Rattle.permit_replay.specs.Bringing.{GivesFrom, Stands, in_both}
use Rattle.permit_replay.proofs.Brought.{IsMidway}
use Rattle.permit_replay.proofs.opening.redoing.redo_lines.Given as goal

abbrev pub invariant-loop-line : goal.invariant-loop-line
invariant-loop-line g l =
    ((g.S.Store.view l.fn.store).doubt ≤ (g.S.Store.view l.store).doubt)
    × ((beginning : Beginning) (done later : List Entry) (left : List ℕ) → GivesFrom (g.Q.Read.remaining l.fn.again) later left
    → length later + l.fn.after ≡ l.fn.last
    → Stands (IsBeginning plain.view-value.it beginning) (unordered (in_both (plain.view-value.it l.fn.there) (g.S.Store.view l.fn.store))).holds done
    → IsMidway (IsBeginning plain.view-value.it beginning) (g.Q.Read.remaining l.again) done later l.batch.waiting.items left l._line l.fn.last
    (in_both (plain.view-value.it l.batch.there) (g.S.Store.view l.store)))
