-- What statements leave of the tables that a connection shows, and what a crash inside them may leave.
use Rattle.std.specs.Prelude.{◌≡◌, ◌≤◌, ℕ, false, List, Result, OnOk, OnErr, IsTrue}
use Rattle.sqlite_trees.specs.declared.store.Store.{Ghosts}
use Rattle.sqlite_trees.specs.View.{doubt}
use Rattle.sqlite_schema.specs.declared.schema.Schema.{Schema}
use Rattle.sqlite.specs.Given.{IsPlain}
use Rattle.sqlite.specs.Listing.{understood}
use Rattle.sqlite.specs.Effect.{Database}
use Rattle.sqlite.specs.State.{HasCleanDisk, Survives}
use Rattle.sqlite.specs.Held.{Held, state}
use Rattle.permit_model.specs.Tables.{Tables}
use Rattle.permit_base.specs.declared.words.Edition.{Edition}
use Rattle.permit_sql_rows.specs.Schema.{IsOffice}
use Rattle.permit_sql_rows.specs.Kept.{IsFine, Keeps, Shows}
use Rattle.permit_sql_statements.specs.Statements.{Statement, RanAll}

-- The text neither writes nor ends a transaction, in each schema of the office under the edition.
abbrev pub IsPlainIn : Edition → List ℕ → Type 0
IsPlainIn edition sql = (schema : Schema) → IsOffice edition schema → IsPlain (understood schema sql)

-- It is between transactions.
abbrev pub IsIdle : {S : Type 0} → Held S → Type 0
IsIdle h = h.in_transaction ≡ false

module _ {S : Type 0} (g : Ghosts S) where
  -- Said of all tables that the connection showed before, where its disk is clean afterwards.
  abbrev pub OverShown : Held S → Held S → (Tables → Type 0) → Type 0
  OverShown old new said = (t : Tables) → HasCleanDisk (state g new) → Shows t (state g old) → said t

  -- It shows the tables that it showed before.
  abbrev pub LeavesTables : Held S → Held S → Type 0
  LeavesTables old new = OverShown old new (λ t. Shows t (state g new))

  -- After an error it shows the tables that it showed before.
  abbrev pub FailureLeavesTables : {A E : Type 0} → Held S → Held S → Result A E → Type 0
  FailureLeavesTables old new result = OverShown old new (λ t. OnErr result (Shows t (state g new)))

  -- After a success it is open.
  abbrev pub IsOpenAfter : {A E : Type 0} → Held S → Result A E → Type 0
  IsOpenAfter new result = HasCleanDisk (state g new) → OnOk result (IsTrue (state g new).is_open)

  -- No doubt of its disk goes.
  abbrev pub KeepsDoubt : Held S → Held S → Type 0
  KeepsDoubt old new = doubt (state g old).is_clean ≤ doubt (state g new).is_clean

  -- A crash inside a read leaves what it left before.
  abbrev pub ReadSurvives : Held S → Held S → Type 0
  ReadSurvives old new = (t : Tables) → Keeps t (state g old).now → Survives (state g old) (state g new) (λ _. ⊥)

  -- The same where the tables are known to be kept only if the disk is clean afterwards, as after another read.
  abbrev pub ReadOutlasts : Held S → Held S → Type 0
  ReadOutlasts old new =
      (t : Tables) → (HasCleanDisk (state g new) → Keeps t (state g old).now) → Survives (state g old) (state g new) (λ _. ⊥)

  -- A read: it shows what it showed before.
  pub record IsRead {A E : Type 0} (old new : Held S) (result : Result A E) : Type 0 where
    pub kept : LeavesTables old new
    pub opened : IsOpenAfter new result
    pub doubt : KeepsDoubt old new
    pub crash : ReadSurvives old new

  -- A query. One that is well afterwards was so before, and shows the same where the text neither writes nor ends a
  -- transaction; a crash inside such a text leaves what it left before.
  pub record IsQuery {A E : Type 0} (sql : List ℕ) (old new : Held S) (result : Result A E) : Type 0 where
    pub idle : IsIdle new
    pub fine : IsFine (state g new) → IsFine (state g old)
    pub same : IsFine (state g new) → IsPlain (understood old.schema sql)
        → ((state g new).now ≡ (state g old).now) × ((state g new).committed ≡ (state g old).committed)
    pub opened : IsOpenAfter new result
    pub doubt : KeepsDoubt old new
    pub crash : (HasCleanDisk (state g new) → IsPlain (understood old.schema sql)) → Survives (state g old) (state g new) (λ _. ⊥)

  -- A transaction. After a failure it shows what it showed before, and nothing is committed. One that is open afterwards
  -- was so before.
  pub record IsTransaction {A E : Type 0} (old new : Held S) (result : Result A E) : Type 0 where
    pub idle : IsIdle new
    pub none : HasCleanDisk (state g new) → IsTrue (state g new).is_open
        → OnErr result (((state g new).now ≡ (state g old).now) × ((state g new).committed ≡ (state g old).committed))
    pub was_open : HasCleanDisk (state g new) → IsTrue (state g new).is_open → IsTrue (state g old).is_open
    pub opened : IsOpenAfter new result

  -- After a success it shows the tables to which the statements lead.
  abbrev pub ShowsAfter : {A E : Type 0} → List Statement → Held S → Held S → Result A E → Type 0
  ShowsAfter statements old new result =
      (t u : Tables) → HasCleanDisk (state g new) → Shows t (state g old)
      → (Keeps t (state g old).now → (db : Database) → RanAll g statements old db → Keeps u db)
      → OnOk result (Shows u (state g new))

  -- A crash inside the statements leaves what it left before, or what all of them made.
  abbrev pub StatementsSurvive : List Statement → Held S → Held S → Type 0
  StatementsSurvive statements old new =
      Survives (state g old) (state g new) (λ trees. (db : Database) × RanAll g statements old db × (trees ≡ db.trees))

  -- A transaction of these statements: after a success all of them have run, and are committed.
  pub record RunsAll {A E : Type 0} (statements : List Statement) (old new : Held S) (result : Result A E) : Type 0 where
    pub all : HasCleanDisk (state g new) → OnOk result (RanAll g statements old (state g new).committed)
    pub shown : HasCleanDisk (state g new) → OnOk result ((state g new).now ≡ (state g new).committed)
    pub transaction : IsTransaction old new result
    pub crash : StatementsSurvive statements old new

  -- These statements, by which tables change: all of them, or none.
  pub record IsRun {A E : Type 0} (statements : List Statement) (old new : Held S) (result : Result A E) : Type 0 where
    pub made : ShowsAfter statements old new result
    pub kept : FailureLeavesTables old new result
    pub opened : IsOpenAfter new result
    pub doubt : KeepsDoubt old new
    pub crash : StatementsSurvive statements old new
