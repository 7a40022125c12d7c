use Rattle.std.proofs.Common.{◌≡◌, ℕ, List, Some}
use Rattle.permit_store.specs.contracts.plain.PlainStoreStore.TheImpl as plain
use Rattle.permit_replay.specs.Holding.{IsBeginning}
use Rattle.permit_replay.specs.Telling.{IsAtLine}
use Rattle.permit_replay.proofs.text.replay_whole.Given as goal

abbrev pub invariant-loop-line : goal.invariant-loop-line
invariant-loop-line g l = (bytes : List ℕ) → g.R.Read.remaining l.fn.source ≡ Some bytes
    → IsAtLine plain.view-value.it (IsBeginning plain.view-value.it l.fn.beginning) bytes (g.R.Read.remaining l.source) l.line l.replayed
