-- What contracts see of tables in memory with an index that covers them.
use Rattle.std.specs.Prelude.{ℕ}
use Rattle.permit_store.specs.Frames.{StoreView}
use Rattle.permit_mirror.specs.Index.{Covers}
use Rattle.permit_mirror.specs.declared.index.Index.{Index}

-- It holds the tables that memory holds and the index covers. The counts are its own.
abbrev pub covered : StoreView → Index → (handed failed commits : ℕ) → StoreView
covered memory index handed failed commits = record {
  holds = λ t. memory.holds t × Covers index t;
  doubt = 0;
  handed = handed;
  failed = failed;
  commits = commits;
}
