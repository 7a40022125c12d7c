-- What a founding makes in a database, and what a refusal of it leaves.
use Rattle.std.specs.Prelude.{◌≡◌, ◌≢◌, ◌⊎◌, Bool, false, IsTrue}
use Rattle.sqlite_trees.specs.View.{doubt as disk_doubt}
use Rattle.sqlite.specs.State.{State, HasCleanDisk, Survives}
use Rattle.permit_model.specs.Tables.{Tables}
use Rattle.permit_store.specs.Frames.{StoreView}
use Rattle.permit_store.specs.declared.store.OpenError.{OpenError}
use Rattle.permit_store.specs.declared.store.OpenError.TheVariants.{Exists, Store}
use Rattle.permit_sql_rows.specs.Schema.{empty_schema}
use Rattle.permit_sql_rows.specs.Kept.{IsFine, Keeps}
use Rattle.permit_sql.specs.Seen.{IsLeft}

-- These tables are made in an empty database, and the store holds them, with nothing counted yet.
pub record Founds (t : Tables) (old new : State) (store : StoreView) : Type 0 where
  pub founded : store.holds t
  pub keeps : HasCleanDisk new → Keeps t new.now
  pub doubt : store.doubt ≡ disk_doubt new.is_clean
  pub handed : store.handed ≡ 0
  pub failed : store.failed ≡ 0
  pub commits : store.commits ≡ 0
  pub opened : HasCleanDisk new → IsTrue new.is_open
  pub empty : old.now.schema ≡ empty_schema
  pub crash : Survives old new (λ trees. IsLeft trees t)

-- These tables aren't made, and the database is as before. Within a transaction the reason says nothing of the database.
pub record RefusesToFound (t : Tables) (old new : State) (in_transaction : Bool) (why : OpenError) : Type 0 where
  pub same : IsFine new → new.now ≡ old.now
  pub kept : Survives old new (λ trees. (old.now.schema ≡ empty_schema) × IsLeft trees t)
  pub exists : why ≡ Exists → old.now.schema ≢ empty_schema
  pub told : in_transaction ≡ false → old.now.schema ≢ empty_schema → why ≡ Exists
  pub refusal : (why ≡ Exists) ⊎ (why ≡ Store)
