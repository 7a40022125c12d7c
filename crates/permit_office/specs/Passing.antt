-- How the rows that routes find are passed on to a taker of files.
use Rattle.std.specs.Prelude.{◌≡◌, ℕ, ◌+◌, ◌%◌, ◌^◌, Bool, true, false, IsTrue, List, [], ◌∷◌, ◌++◌, length, Result, Ok, Err, ⊤, IsPermutation}
use Rattle.permit_base.specs.declared.route.Route.{Route}
use Rattle.permit_core.specs.Taking.{TookAll, BeganOf}
use Rattle.permit_model.specs.Caller.{Party}
use Rattle.permit_model.specs.Policy.{Policy}
use Rattle.permit_model.specs.Tables.{FileView, Tables, tables}
use Rattle.permit_model.specs.Routes.{Found, found_by}
use Rattle.permit_store.specs.declared.store.StoreError.{StoreError}
use Rattle.permit_store.specs.Frames.{StoreView, OverHistory}
use Rattle.permit_store.specs.Handing.{AreAmong, AreHanded, found_by_any}
use Rattle.permit_office.specs.declared.showing.RowsEnd.{RowsEnd}
use Rattle.permit_office.specs.declared.showing.RowsEnd.TheVariants as ended
use Rattle.permit_office.specs.declared.passing.Passer.{Passer}
use Rattle.permit_office.specs.Listings.{may_list, view_found, views_found}
use Rattle.permit_office.specs.Reach.{HandedMore}
use Rattle.permit_office.specs.Stops.{StopsAtLast}

-- It goes on: the file was taken where it may be listed. It stops: the taker asked to.
abbrev pub Went : {T : Type 0} → (T → FileView → T → Bool → Type 0) → Found → Passer T → Passer T → Bool → Type 0
Went took found before after true =
    TookAll took (views_found before.policy.now before.caller.now before.day (found ∷ [])) before.taker.now after.taker.now
Went took found before after false =
    IsTrue (may_list before.policy.now before.caller.now before.day found) × took before.taker.now (view_found before.day found) after.taker.now false

-- One row was taken, and the file passed on to the same taker.
pub record Passes {T : Type 0} (took : T → FileView → T → Bool → Type 0) (before : Passer T) (found : Found) (after : Passer T) (more : Bool) : Type 0 where
  pub policy : after.policy ≡ before.policy
  pub caller : after.caller ≡ before.caller
  pub day : after.day ≡ before.day
  pub same : after.taker.ghost_name ≡ before.taker.ghost_name
  pub read : after.read ≡ (before.read + 1) % 2 ^ 32
  pub went : Went took found before after more

-- what the taker did with the files among these rows that may be listed: it took each, or it stopped at the last row's, or
-- it took a prefix before a failure
abbrev pub TakenOf : {T : Type 0} → (T → FileView → T → Bool → Type 0) → Policy → Party → ℕ → List Found → T → T → Result RowsEnd StoreError → Type 0
TakenOf took policy caller day given before after (Ok (ended.All read)) = (read ≡ length given % 2 ^ 32)
    × TookAll took (views_found policy caller day given) before after
TakenOf took policy caller day given before after (Ok ended.Stopped) = StopsAtLast took policy caller day given before after
TakenOf took policy caller day given before after (Ok (ended.Refused why)) = ⊥
TakenOf took policy caller day given before after (Err e) = BeganOf took (views_found policy caller day given) before after

-- what is left of the rows found: nothing, where all were taken
abbrev pub LeftAt : Result RowsEnd StoreError → List Found → Type 0
LeftAt (Ok (ended.All read)) rest = rest ≡ []
LeftAt result rest = ⊤

-- The rows that were handed to a taker are a prefix of those that one route finds, or some of those that several find.
abbrev pub AreHandedBy : {E : Type 0} → List Route → ℕ → ℕ → Tables → Result Bool E → List Found → Type 0
AreHandedBy (route ∷ []) caller day t result given = AreHanded t result given (found_by route caller day t)
AreHandedBy routes caller day t result given = AreAmong result given (found_by_any routes caller day t)

-- These are the rows that the routes find: of one route in the order in which they are kept, of several in any order.
abbrev pub AreFoundBy : List Route → ℕ → ℕ → Tables → List Found → Type 0
AreFoundBy (route ∷ []) caller day t rows = found_by route caller day t ≡ rows
AreFoundBy routes caller day t rows = IsPermutation rows (found_by_any routes caller day t)

-- The files that may be listed among these rows were passed on, and the rows are among those that the routes find.
pub record PassedOn {T : Type 0} (took : T → FileView → T → Bool → Type 0) (policy : Policy) (caller : Party) (day : ℕ) (routes : List Route)
    (old new : StoreView) (before after : T) (result : Result RowsEnd StoreError) : Type 0 where
  pub given : List Found
  pub taken : TakenOf took policy caller day given before after result
  pub handed : HandedMore (length given) old.handed new.handed
  pub found : OverHistory old new (λ h. (rest : List Found) × LeftAt result rest × AreFoundBy routes caller.id day (tables h) (given ++ rest))
