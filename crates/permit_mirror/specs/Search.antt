-- The rows that selections find among the files of some numbers.
use Rattle.std.specs.Prelude.{◌≡◌, ℕ, ◌==◌, Bool, true, false, List, [], ◌∷◌, ◌++◌, length, map, filter, find, option_to_list, Result}
use Rattle.permit_base.specs.declared.route.By.TheVariants as by
use Rattle.permit_base.specs.declared.route.Route.{Route}
use Rattle.permit_base.specs.declared.route.Route.TheVariants.{Every, Cell}
use Rattle.permit_model.specs.Routes.{Found, found_row}
use Rattle.permit_model.specs.Tables.{Tables}
use Rattle.permit_store.specs.Handing.{IsLeft, Took, is_found_by_any, more_handed}

-- whether the selection asks for files to which the caller has a relation
abbrev pub is_by_relation : Route → Bool
is_by_relation Every = false
is_by_relation (Cell by.Whole stage stopped timing) = false
is_by_relation (Cell (by.One relation) stage stopped timing) = true
is_by_relation (Cell (by.Two first second) stage stopped timing) = true

-- the row of the file of the number, where any of the selections finds it
abbrev pub found_one : List Route → ℕ → ℕ → Tables → ℕ → List Found
found_one routes caller day t number =
    filter (is_found_by_any routes caller day) (map (found_row t caller) (option_to_list (find (λ f. f.id == number) t.files)))

-- the rows of the files of these numbers that any of the selections finds
abbrev pub found_at : List Route → ℕ → ℕ → Tables → List ℕ → List Found
found_at routes caller day t [] = []
found_at routes caller day t (number ∷ numbers) = found_one routes caller day t number ++ found_at routes caller day t numbers

-- A prefix of the rows found was handed to the taker, or all of them, and each was counted.
pub record HandsOut {T E : Type 0} (took : T → Found → T → Bool → Type 0) (holds : Tables → Type 0) (found : Tables → List Found) (old new : ℕ)
    (before after : T) (result : Result Bool E) : Type 0 where
  pub given : List Found
  pub taken : Took took given before after result
  pub count : new ≡ more_handed (length given) old
  pub whole : (t : Tables) → holds t → (rest : List Found) × IsLeft result rest × (given ++ rest ≡ found t)
