-- What contracts see of the two stores together.
use Rattle.permit_store.specs.Frames.{StoreView}
use Rattle.permit_store.specs.declared.store.Store.{Ghosts as StoreGhosts}
use Rattle.permit_store.specs.declared.memory.Memory.{Ghosts as MemoryGhosts}
use Rattle.permit_mirror.specs.Both.{both}
use Rattle.permit_mirror.specs.declared.mirrored.Mirrored.{Mirrored}

abbrev pub seen : {S M Ready : Type 0} {kept : StoreGhosts S} {memory : MemoryGhosts M Ready} {tables : StoreGhosts M}
    → Mirrored S M Ready kept memory tables → StoreView
seen {kept = kept} {tables = tables} s = both (kept.view s.kept) (tables.view s.memory) s.failed s.commits
