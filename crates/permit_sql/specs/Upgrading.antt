-- What an upgrade makes of a database of version 1.
use Rattle.std.specs.Prelude.{◌≡◌, ℕ, length, IsTrue}
use Rattle.sqlite.specs.Effect.{Database}
use Rattle.sqlite.specs.State.{State, HasCleanDisk}
use Rattle.permit_base.specs.declared.words.Edition.TheVariants.{First}
use Rattle.permit_model.specs.Files.{case_files}
use Rattle.permit_model.specs.History.{History, upgraded}
use Rattle.permit_model.specs.Machine.{IsHistory}
use Rattle.permit_model.specs.Tables.{Tables, tables, with_upgrade}
use Rattle.permit_model.specs.Sound.{IsSoundTables}
use Rattle.permit_sql_rows.specs.Kept.{Keeps, KeepsUnder}
use Rattle.permit_sql_statements.specs.Founding.{AreCounted}
use Rattle.permit_sql.specs.Found.{AreTyped, KeepsSound}
use Rattle.permit_sql.specs.Opening.{HasOtherVersion}

-- It kept these sound tables, of so many files, and keeps them with the entry of the upgrade.
pub record IsUpgraded (files : ℕ) (old new : Database) : Type 0 where
  pub t : Tables
  pub typed : AreTyped t
  pub sound : IsSoundTables t
  pub was : KeepsUnder First t old
  pub count : t.desk.files ≡ files
  pub now : Keeps (with_upgrade t) new

-- The tables of version 1 are those of version 2, with the entry of the upgrade, and this is their count of files.
pub record Upgrades (old new : State) (files : ℕ) : Type 0 where
  pub made : HasCleanDisk new → (t : Tables) → AreCounted t → KeepsUnder First t old.now → (files ≡ t.desk.files) × Keeps (with_upgrade t) new.now
  pub history : HasCleanDisk new → (h : History) → IsHistory h → KeepsUnder First (tables h) old.now
      → (files ≡ length (case_files h)) × Keeps (tables (upgraded h)) new.now
  pub tested : HasCleanDisk new → IsUpgraded files old.now new.now
  pub sound : HasCleanDisk new → KeepsSound new.now
  pub opened : HasCleanDisk new → IsTrue new.is_open
  pub first : HasCleanDisk new → ¬ HasOtherVersion First old.now
