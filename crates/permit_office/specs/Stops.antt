-- Where a taker stops in a listing, and how many rows the store has handed out by then.
use Rattle.std.specs.Prelude.{◌≡◌, ℕ, Bool, false, IsTrue, List, [], ◌∷◌, ◌++◌, length, Some, ⊤}
use Rattle.permit_base.specs.declared.request.Filter.{Filter}
use Rattle.permit_base.specs.declared.route.Route.{Route}
use Rattle.permit_base.specs.declared.words.Action.TheVariants as action
use Rattle.permit_core.specs.Taking.{TookAll}
use Rattle.permit_model.specs.History.{History}
use Rattle.permit_model.specs.Caller.{Party, who}
use Rattle.permit_model.specs.Policy.{Policy}
use Rattle.permit_model.specs.Opened.{opened, allowed_by}
use Rattle.permit_model.specs.Tables.{FileView, tables}
use Rattle.permit_model.specs.Routes.{Found, found_by, routes_of}
use Rattle.permit_office.specs.declared.showing.RowsEnd.{RowsEnd}
use Rattle.permit_office.specs.declared.showing.RowsEnd.TheVariants as ended
use Rattle.permit_office.specs.Listings.{may_list, view_found, views_found}
use Rattle.permit_office.specs.Reach.{HandedMore}

-- the selections of a listing for the caller
abbrev pub routes_for : Policy → Party → Filter → List Route
routes_for policy caller wanted = routes_of (allowed_by policy caller.role action.List) wanted

-- The taker stopped at the file of the last of these rows, and took the files that may be listed of those before it.
pub record StopsAtLast {T : Type 0} (took : T → FileView → T → Bool → Type 0) (policy : Policy) (caller : Party) (day : ℕ) (given : List Found)
    (old new : T) : Type 0 where
  pub passed : List Found
  pub last : Found
  pub order : given ≡ passed ++ last ∷ []
  pub between : T
  pub taken : TookAll took (views_found policy caller day passed) old between
  pub listed : IsTrue (may_list policy caller day last)
  pub stopped : took between (view_found day last) new false

-- The rows of one selection go on to the taker as the store hands them out, so those up to the file at which it stopped
-- were handed out, and no further one. The files of several are put in order first, so all the rows opened were.
abbrev pub StopsIn : {T : Type 0} → (T → FileView → T → Bool → Type 0) → Policy → History → Party → ℕ → Filter → List Route → T → T → ℕ → ℕ → Type 0
StopsIn took policy h caller day wanted (route ∷ []) before after old new =
    (given : List Found) × (rest : List Found) × (found_by route caller.id day (tables h) ≡ given ++ rest)
    × StopsAtLast took policy caller day given before after × HandedMore (length given) old new
StopsIn took policy h caller day wanted routes before after old new = HandedMore (length (opened policy h day caller wanted)) old new

-- the end of a listing for the caller, where the taker stopped
abbrev pub StopsFor : {T : Type 0} → (T → FileView → T → Bool → Type 0) → Policy → History → Party → ℕ → Filter → RowsEnd → T → T → ℕ → ℕ → Type 0
StopsFor took policy h caller day wanted ended.Stopped before after old new =
    StopsIn took policy h caller day wanted (routes_for policy caller wanted) before after old new
StopsFor took policy h caller day wanted end before after old new = ⊤

-- the same for the party that keeps the digest
abbrev pub StopsAt : {T : Type 0} → (T → FileView → T → Bool → Type 0) → Policy → History → List ℕ → ℕ → Filter → RowsEnd → T → T → ℕ → ℕ → Type 0
StopsAt took policy h digest day wanted ended.Stopped before after old new =
    (caller : Party) × (who h digest ≡ Some caller) × StopsFor took policy h caller day wanted ended.Stopped before after old new
StopsAt took policy h digest day wanted end before after old new = ⊤
