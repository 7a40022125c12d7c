-- What contracts see of a store over SQLite.
use Rattle.std.specs.Prelude.{◌≡◌, ℕ, Bool, false, Option, Result, Ok, Err}
use Rattle.sqlite_trees.specs.View.{doubt}
use Rattle.sqlite_trees.specs.Tree.{Trees}
use Rattle.sqlite.specs.Effect.{Database}
use Rattle.sqlite.specs.State.{State, HasCleanDisk, Survives}
use Rattle.permit_model.specs.Tables.{Tables}
use Rattle.permit_store.specs.Frames.{StoreView}
use Rattle.permit_sql_rows.specs.Kept.{Keeps, Shows}

-- It holds the tables that its connection shows and that had so many files at the upgrade, where the disk has given back
-- what was written; its doubt is the disk's.
abbrev pub seen : State → Option ℕ → (handed failed commits : ℕ) → StoreView
seen s upgrade handed failed commits = record {
  holds = λ t. HasCleanDisk s → (t.upgrade ≡ upgrade) × Shows t s;
  doubt = doubt s.is_clean;
  handed = handed;
  failed = failed;
  commits = commits;
}

-- these trees are those of a database that keeps these tables
abbrev pub IsLeft : Trees → Tables → Type 0
IsLeft trees t = (db : Database) × Keeps t db × (trees ≡ db.trees)

-- what a crash leaves of a database that keeps these tables is what it left before, or trees of which this is said
abbrev pub Outlasts : State → State → Tables → ((Tables → Type 0) → Type 0) → Type 0
Outlasts old new t made = Keeps t old.now → Survives old new (λ trees. made (IsLeft trees))

-- what a crash at this moment may leave is exactly what it shows
abbrev pub Lasts : State → Type 0
Lasts s = (db : Trees) → s.may_leave db → db ≡ s.now.trees

-- Whether the last commit failed, and no request has begun with a success since: a call that a request may begin with clears
-- it where it succeeds.
abbrev pub suspect_after : {A E : Type 0} → Result A E → Bool → Bool
suspect_after (Ok a) was = false
suspect_after (Err e) was = was
