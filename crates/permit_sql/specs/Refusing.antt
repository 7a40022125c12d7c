-- What a refusal leaves of a database, and says of it.
use Rattle.std.specs.Prelude.{◌≡◌, ◌⊎◌, IsTrue}
use Rattle.sqlite.specs.State.{State, HasCleanDisk}
use Rattle.permit_base.specs.declared.words.Edition.{Edition}
use Rattle.permit_store.specs.declared.store.OpenError.{OpenError}
use Rattle.permit_store.specs.declared.store.OpenError.TheVariants.{Damaged, Version, Store}
use Rattle.permit_sql_rows.specs.Schema.{IsOffice}
use Rattle.permit_sql_rows.specs.Kept.{IsFine}
use Rattle.permit_sql.specs.Found.{KeepsSoundUnder}
use Rattle.permit_sql.specs.Opening.{HasOtherVersion}

-- The tables of the edition were looked for, and the database is as before. `Is` says of each way to refuse them whether the call
-- refused so.
pub record Refuses (edition : Edition) (old new : State) (Is : OpenError → Type 0) : Type 0 where
  pub same : IsFine new → new.now ≡ old.now
  pub version : HasCleanDisk new → Is Version → HasOtherVersion edition old.now
  pub told : HasCleanDisk new → HasOtherVersion edition old.now → Is Version ⊎ Is Store
  pub damaged : HasCleanDisk new → Is Damaged → ¬ KeepsSoundUnder edition old.now
  pub schema : HasCleanDisk new → Is Damaged → IsOffice edition old.now.schema
  pub judged : HasCleanDisk new → (¬ Is Store) → IsTrue new.is_open
