-- What was handed out of the rows of an answer.
use Rattle.std.specs.Prelude.{◌≡◌, ◌⊎◌, ℕ, List, [], ◌∷◌, Bool, true, false, Option, Result, Ok, Err, IsTrue, ⊤}
use Rattle.sqlite_value.specs.Order.{Row}
use Rattle.sqlite.specs.State.{State, Shown, Begins}
use Rattle.permit_model.specs.Routes.{Found}
use Rattle.permit_sql_rows.specs.Kept.{IsNamed}
use Rattle.permit_sql_rows.specs.Rows.{shown_found}

-- each row was read as what it shows, where there were so many files at the upgrade
abbrev pub AreReadAs : Option ℕ → List Row → List Found → Type 0
AreReadAs upgrade [] [] = ⊤
AreReadAs upgrade [] (found ∷ given) = ⊥
AreReadAs upgrade (row ∷ rows) [] = ⊥
AreReadAs upgrade (row ∷ rows) (found ∷ given) =
    ((is : Found) → IsNamed upgrade is.row.id is.row.state → row ≡ shown_found is → found ≡ is) × AreReadAs upgrade rows given

-- these rows of the answer were read: all of them, where the taker took them all, and else the first ones
abbrev pub AreRead : {E : Type 0} → Result Bool E → List ℕ → Row → State → State → List Row → Type 0
AreRead (Ok true) sql params old new rows = Shown sql params old new rows
AreRead (Ok false) sql params old new rows = IsTrue old.is_open × Begins sql params old rows
AreRead (Err e) sql params old new rows = (rows ≡ []) ⊎ (IsTrue old.is_open × Begins sql params old rows)

-- this was handed out of the answer
pub record Gave {E : Type 0} (upgrade : Option ℕ) (result : Result Bool E) (sql : List ℕ) (params : Row) (old new : State) (given : List Found) : Type 0 where
  pub rows : List Row
  pub are : AreRead result sql params old new rows
  pub shown : AreReadAs upgrade rows given
