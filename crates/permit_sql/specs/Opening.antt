-- What an open finds in a database.
use Rattle.std.specs.Prelude.{◌≡◌, ◌≢◌, ℤ, pos, IsTrue, Some, [], ◌∷◌, slice_get}
use Rattle.sqlite.specs.declared.types.Value.{Value}
use Rattle.sqlite.specs.declared.types.Value.TheVariants.{Int}
use Rattle.sqlite_value.specs.Order.{Row, column}
use Rattle.sqlite.specs.Effect.{Database}
use Rattle.sqlite.specs.State.{State, HasCleanDisk, Survives}
use Rattle.sqlite_trees.specs.View.{doubt as disk_doubt}
use Rattle.permit_base.specs.declared.words.Edition.{Edition}
use Rattle.permit_base.specs.declared.words.Edition.TheVariants.{Second}
use Rattle.permit_model.specs.Tables.{Tables, version_of}
use Rattle.permit_store.specs.Frames.{StoreView}
use Rattle.permit_sql_rows.specs.Schema.{desk_table}
use Rattle.permit_sql_rows.specs.Kept.{Shows}
use Rattle.permit_sql.specs.Found.{KeepsSound}

-- what a query of all columns shows of a row of the desk's tree, with the rowid in the first column
abbrev pub seen_desk : Row → Row
seen_desk r = column r 0 ∷ column r 2 ∷ column r 3 ∷ column r 4 ∷ column r 5 ∷ column r 6 ∷ []

-- what a query of all columns shows of a row of the upgrade's tree
abbrev pub seen_upgrade : Row → Row
seen_upgrade r = column r 0 ∷ column r 2 ∷ []

-- a number, and another than the version of the tables under the edition
abbrev pub IsOther : Edition → Value → Type 0
IsOther edition v = (number : ℤ) × (v ≡ Int number) × (number ≢ pos (version_of edition))

-- The first table is the desk's. It has one row, and that says another version than that of the edition.
pub record HasOtherVersion (edition : Edition) (db : Database) : Type 0 where
  pub desk : slice_get db.schema.tables 0 ≡ Some desk_table
  pub row : Row
  pub only : db.trees 0 ≡ row ∷ []
  pub other : IsOther edition (column row 2)

-- The store holds the tables of the database, which are sound and are left as they are, with nothing counted yet.
pub record Opens (old new : State) (store : StoreView) : Type 0 where
  pub held : (t : Tables) → (HasCleanDisk new → Shows t old) → store.holds t
  pub opened : HasCleanDisk new → IsTrue new.is_open
  pub sound : HasCleanDisk new → KeepsSound new.now
  pub left : HasCleanDisk new → new.now ≡ old.now
  pub first : HasCleanDisk new → ¬ HasOtherVersion Second old.now
  pub doubt : store.doubt ≡ disk_doubt new.is_clean
  pub counts : (store.handed ≡ 0) × (store.failed ≡ 0) × (store.commits ≡ 0)
  pub crash : Survives old new (λ _. ⊥)
