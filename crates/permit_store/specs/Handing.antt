-- The rows that a selection hands out, all at once or to a taker, one at a time.
use Rattle.std.specs.Prelude.{◌≡◌, ◌<◌, ℕ, ◌+◌, ◌%◌, ◌^◌, Bool, true, false, List, [], ◌∷◌, ◌++◌, length, Result, Ok, Err, ⊤, IsPermutation, map, filter}
use Rattle.std.specs.List.{AllByRecursion, list_any}
use Rattle.permit_base.specs.declared.route.Route.{Route}
use Rattle.permit_model.specs.Tables.{FileRow, Tables}
use Rattle.permit_model.specs.Routes.{Found, found_row, is_found}
use Rattle.permit_core.specs.Taking.{TookAll}
use Rattle.permit_store.specs.Frames.{StoreView, Reads}

-- the numbers of the rows rise
abbrev pub AreRising : List FileRow → Type 0
AreRising [] = ⊤
AreRising (row ∷ rows) = AllByRecursion (λ later. row.id < later.id) rows × AreRising rows

-- These are the rows found, in some order, and where the numbers of the tables' rows rise, in that order.
pub record AreFound (t : Tables) (given found : List Found) : Type 0 where
  pub same : IsPermutation given found
  pub order : AreRising t.files → given ≡ found

-- the count of rows handed out, after so many more
abbrev pub more_handed : ℕ → ℕ → ℕ
more_handed more n = (n + more) % 2 ^ 64

-- the count after a selection with this answer: an error hands nothing out
abbrev pub selected_after : {A E : Type 0} → (A → ℕ) → Result A E → ℕ → ℕ
selected_after count (Ok rows) n = more_handed (count rows) n
selected_after count (Err e) n = n

-- The rows were taken in order. Each answer was true, but for the last one where the taker asked to stop.
abbrev pub Took : {T E : Type 0} → (T → Found → T → Bool → Type 0) → List Found → T → T → Result Bool E → Type 0
Took took given old new (Ok true) = TookAll took given old new
Took {T} took given old new (Ok false) = (before : List Found) × (last : Found) × (given ≡ before ++ last ∷ []) × (mid : T) × TookAll took before old mid
    × took mid last new false
Took took given old new (Err e) = TookAll took given old new

-- what is left of the rows found: nothing, where the taker took them all
abbrev pub IsLeft : {E : Type 0} → Result Bool E → List Found → Type 0
IsLeft (Ok true) rest = rest ≡ []
IsLeft (Ok false) rest = ⊤
IsLeft (Err e) rest = ⊤

-- The rows that were handed to a taker are a prefix of those found, or all of them.
abbrev pub AreHanded : {E : Type 0} → Tables → Result Bool E → List Found → List Found → Type 0
AreHanded t result given found = (rest : List Found) × IsLeft result rest × AreFound t (given ++ rest) found

-- ---- several selections at once

-- whether any of the selections finds the row
abbrev pub is_found_by_any : List Route → ℕ → ℕ → Found → Bool
is_found_by_any routes caller day found = list_any (λ route. is_found route caller day found) routes

-- the rows that any of the selections finds, each once, in the order in which they are kept
abbrev pub found_by_any : List Route → ℕ → ℕ → Tables → List Found
found_by_any routes caller day t = filter (is_found_by_any routes caller day) (map (found_row t caller) t.files)

-- The rows that were handed to a taker are some of those found, in any order, or all of them.
abbrev pub AreAmong : {E : Type 0} → Result Bool E → List Found → List Found → Type 0
AreAmong result given found = (rest : List Found) × IsLeft result rest × IsPermutation (given ++ rest) found

-- These rows were handed to a taker by a call that reads, and each counts as handed out.
pub record Hands {T E : Type 0} (took : T → Found → T → Bool → Type 0) (given : List Found) (old new : StoreView) (before after : T)
    (result : Result Bool E) : Type 0 where
  pub taken : Took took given before after result
  pub read : Reads ⊤ (more_handed (length given) old.handed) old new result
