-- What a look over the rows leaves of what a connection shows, and of what a crash leaves.
use Rattle.std.specs.Prelude.{◌≡◌, IsTrue, OnOk, Result}
use Rattle.sqlite_trees.specs.declared.store.Store.{Ghosts}
use Rattle.sqlite.specs.State.{HasCleanDisk, Survives}
use Rattle.sqlite.specs.Held.{Held, state}
use Rattle.permit_base.specs.declared.words.Edition.{Edition}
use Rattle.permit_model.specs.Tables.{Tables}
use Rattle.permit_sql_rows.specs.Kept.{IsFine, KeepsUnder}
use Rattle.permit_sql_statements.specs.Frames.{IsIdle, IsOpenAfter}
use Rattle.permit_sql.specs.Found.{AreTyped}

module _ {S : Type 0} (g : Ghosts S) where
  -- Said of all typed tables that the connection showed before under the edition.
  abbrev pub OverTyped : Edition → Held S → (Tables → Type 0) → Type 0
  OverTyped edition old said = (t : Tables) → AreTyped t → KeepsUnder edition t (state g old).now → said t

  -- A connection that is well afterwards was so before, and shows the same.
  abbrev pub LeavesRows : Held S → Held S → Type 0
  LeavesRows old new = IsFine (state g new) → IsFine (state g old) × ((state g new).now ≡ (state g old).now)

  -- After a success a connection that was open is open.
  abbrev pub StaysOpen : {A E : Type 0} → Held S → Held S → Result A E → Type 0
  StaysOpen old new result = HasCleanDisk (state g new) → IsTrue (state g old).is_open → OnOk result (IsTrue (state g new).is_open)

  -- A crash inside leaves what it left before.
  abbrev pub LeavesOverCrash : Held S → Held S → Type 0
  LeavesOverCrash old new = Survives (state g old) (state g new) (λ _. ⊥)

  -- A look over the rows of a connection between transactions, which it leaves.
  pub record IsLook {A E : Type 0} (old new : Held S) (result : Result A E) : Type 0 where
    pub idle : IsIdle new
    pub opened : IsOpenAfter g new result
    pub left : LeavesRows old new
    pub crash : LeavesOverCrash old new
