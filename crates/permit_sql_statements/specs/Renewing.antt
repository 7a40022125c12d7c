-- The statement that renews a party's token.
use Rattle.std.specs.Prelude.{◌≡◌, ℕ, List, [], ◌∷◌, None, OnOk, Result}
use Rattle.sqlite_trees.specs.declared.store.Store.{Ghosts}
use Rattle.sqlite.specs.Effect.{Database}
use Rattle.sqlite.specs.State.{HasCleanDisk, Survives}
use Rattle.sqlite.specs.Held.{Held, state}
use Rattle.sqlite_value.specs.Order.{Row}
use Rattle.permit_model.specs.Renewal.{against_renewal, with_renewed}
use Rattle.permit_model.specs.Tables.{Tables}
use Rattle.permit_sql_rows.specs.Kept.{Keeps, Shows}
use Rattle.permit_sql_statements.specs.Frames.{FailureLeavesTables, IsOpenAfter, KeepsDoubt}
use Rattle.permit_sql_statements.specs.Statements.{Statement}
use Rattle.permit_sql_statements.specs.declared.texts.TheConstants.{SET_DIGEST}

-- a party's digest is set, and nothing else
abbrev pub renewal_statements : Row → List Statement
renewal_statements party = (SET_DIGEST.now, party) ∷ []

-- The tables that a database keeps, where there is no reason against giving the party the digest, lead to what this says.
abbrev pub OverRenewal : ℕ → List ℕ → Database → (Tables → Type 0) → Type 0
OverRenewal party digest db said = (t : Tables) → against_renewal t.parties party digest ≡ None → Keeps t db → said t

-- A party's digest is set where there is no reason against it, or nothing is done.
pub record IsRenewal {S A E : Type 0} (g : Ghosts S) (party : ℕ) (digest : List ℕ) (old new : Held S) (result : Result A E) : Type 0 where
  pub made : (t : Tables) → HasCleanDisk (state g new) → Shows t (state g old) → against_renewal t.parties party digest ≡ None
      → OnOk result (Shows (with_renewed party digest t) (state g new))
  pub kept : FailureLeavesTables g old new result
  pub opened : IsOpenAfter g new result
  pub doubt : KeepsDoubt g old new
  pub crash : Survives (state g old) (state g new)
      (λ trees. OverRenewal party digest (state g old).now (λ t. (db : Database) × Keeps (with_renewed party digest t) db × (trees ≡ db.trees)))
