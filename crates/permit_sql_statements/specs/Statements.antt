-- Statements that run in turn, in one transaction.
use Rattle.std.specs.Prelude.{◌≡◌, ℕ, true, List, [], ◌∷◌, Ok}
use Rattle.sqlite_value.specs.Order.{Row}
use Rattle.sqlite_trees.specs.declared.store.Store.{Ghosts}
use Rattle.sqlite.specs.Effect.{Database}
use Rattle.sqlite.specs.State.{Executes}
use Rattle.sqlite.specs.Held.{Held, state}
use Rattle.permit_model.specs.Tables.{Desk}
use Rattle.permit_sql_rows.specs.Rows.{int}
use Rattle.permit_sql_statements.specs.declared.texts.TheConstants.{WRITE_DESK}

-- a text and its parameters
abbrev pub Statement : Type 0
Statement = List ℕ × Row

-- the statement that sets the desk's row
abbrev pub desk_statement : Desk → Statement
desk_statement d = (WRITE_DESK.now, int d.last ∷ int d.parties ∷ int d.parcels ∷ int d.files ∷ [])

module _ {S : Type 0} (g : Ghosts S) where
  abbrev pub Ran : List Statement → Held S → Held S → Type 0
  Ran [] old new = new ≡ old
  Ran (s ∷ more) old new = (mid : Held S) × (count : ℕ) × Executes s.0 s.1 (state g old) (state g mid) (Ok count) × Ran more mid new

  -- they lead from the old database to this one
  pub record RanAll (statements : List Statement) (old : Held S) (db : Database) : Type 0 where
    pub last : Held S
    pub ran : Ran statements (record old { in_transaction = true }) last
    pub is : db ≡ (state g last).now
