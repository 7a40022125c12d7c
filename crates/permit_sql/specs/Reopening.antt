-- What a store that is given back has committed.
use Rattle.std.specs.Prelude.{◌≡◌, IsTrue}
use Rattle.sqlite.specs.Effect.{IsDatabase}
use Rattle.sqlite.specs.State.{State, HasCleanDisk}
use Rattle.permit_model.specs.Tables.{Tables}
use Rattle.permit_sql_rows.specs.Kept.{Keeps}

-- a connection that is well has these tables, and has committed them
pub record IsSettled (t : Tables) (s : State) : Type 0 where
  pub kept : Keeps t s.now
  pub live : IsDatabase s.now
  pub same : s.now ≡ s.committed

abbrev pub HasSettled : Tables → State → Type 0
HasSettled t s = HasCleanDisk s → IsTrue s.is_open → IsSettled t s

-- The one was well and committed the trees that the other shows, which are a database.
pub record FindsAgain (old new : State) : Type 0 where
  pub clean : HasCleanDisk old
  pub opened : IsTrue old.is_open
  pub same : new.now.trees ≡ old.committed.trees
  pub live : IsDatabase new.now
