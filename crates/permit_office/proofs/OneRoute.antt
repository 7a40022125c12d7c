-- A listing whose rows one selection finds.
use Rattle.std.proofs.Common.{◌≡◌, ◌<◌, ◌≤◌, ℕ, Bool, List, [], ◌∷◌, ◌++◌, length, refl, sym, ◌∙◌, ap, subst, map, append_assoc, append-nil, get_or, arith}
use Rattle.std.specs.Prelude.{filter, Result, Ok, Err, IsErr, Some}
use Rattle.std.specs.List.{flat_map}
use Rattle.permit_base.specs.declared.request.Filter.{Filter}
use Rattle.permit_base.specs.declared.route.Route.{Route}
use Rattle.permit_core.specs.Taking.{TookAll, StoppedIn, BeganOf}
use Rattle.permit_model.specs.History.{History}
use Rattle.permit_model.specs.Caller.{Party}
use Rattle.permit_model.specs.Policy.{Policy}
use Rattle.permit_model.specs.Listing.{listing}
use Rattle.permit_model.specs.Opened.{opened}
use Rattle.permit_model.specs.Tables.{FileRow, FileView, Tables, tables}
use Rattle.permit_model.specs.Routes.{Found, found_row, is_found, found_by}
use Rattle.permit_model.specs.Machine.{IsHistory, Listed}
use Rattle.permit_model.proofs.Rising.{rows_rising, IsRising, mapped_rising, filtered_rising}
use Rattle.permit_model.proofs.ReadCount.{same_count, few_opened}
use Rattle.permit_store.specs.declared.store.StoreError.{StoreError}
use Rattle.permit_store.specs.Frames.{StoreView}
use Rattle.permit_office.specs.declared.showing.RowsEnd.{RowsEnd}
use Rattle.permit_office.specs.declared.showing.RowsEnd.TheVariants as ended
use Rattle.permit_office.specs.Reach.{HandedMore}
use Rattle.permit_office.specs.Listings.{may_list, view_found, views_found, AreRising}
use Rattle.permit_office.specs.Passing.{PassedOn}
use Rattle.permit_office.specs.Showing.{Shows, OpensAt, HandedAt, end_of}
use Rattle.permit_office.specs.Stops.{StopsAtLast, StopsIn, StopsFor, routes_for}
use Rattle.permit_office.proofs.Listings.{views_append, files_listed, few_read}
use Rattle.permit_office.proofs.PassedRows.{listed_alone}

-- a list of one
pub alone : {A : Type 0} (xs : List A) (x : A) → 1 ≤ length xs → length xs < 2 → x ≡ get_or xs 0 x → xs ≡ x ∷ []
alone [] x low high e = absurd (omega arith)
alone (y ∷ []) x low high e = ap (λ z. z ∷ []) (sym e)
alone (y ∷ (z ∷ ys)) x low high e = absurd (omega arith)

-- ---- the files of one selection

in_order : (views : List FileView) → IsRising (λ (v : FileView). v.row.id) views → AreRising views
in_order [] up = up
in_order (view ∷ views) up = (up.0, in_order views up.1)

views_rising : (policy : Policy) (h : History) (day : ℕ) (caller : Party) (route : Route) → IsHistory h →
    AreRising (views_found policy caller day (found_by route caller.id day (tables h)))
views_rising policy h day caller route is =
    let number : Found → ℕ = λ f. f.row.id in
    in_order (views_found policy caller day (found_by route caller.id day (tables h)))
    (mapped_rising (view_found day) number (λ (v : FileView). v.row.id) (λ f. refl)
    (filter (may_list policy caller day) (found_by route caller.id day (tables h)))
    (filtered_rising number (may_list policy caller day) (found_by route caller.id day (tables h))
    (filtered_rising number (is_found route caller.id day) (map (found_row (tables h) caller.id) (tables h).files)
    (mapped_rising (found_row (tables h) caller.id) (λ (row : FileRow). row.id) number (λ row. refl) (tables h).files (rows_rising h is)))))

-- what it finds, as one of the list of selections
found_alone : (h : History) (day : ℕ) (caller : Party) (route : Route) (routes : List Route) → routes ≡ route ∷ [] →
    found_by route caller.id day (tables h) ≡ flat_map (λ r. found_by r caller.id day (tables h)) routes
found_alone h day caller route routes e =
    sym (append-nil (found_by route caller.id day (tables h))) ∙ ap (flat_map (λ (r : Route). found_by r caller.id day (tables h))) (sym e)

-- the files among them that may be listed are the listing's
one_listed : (policy : Policy) (h : History) (day : ℕ) (caller : Party) (wanted : Filter) → IsHistory h → (route : Route) →
    routes_for policy caller wanted ≡ route ∷ []
    → views_found policy caller day (found_by route caller.id day (tables h)) ≡ listing policy h day caller wanted
one_listed policy h day caller wanted is route e =
    let views = views_found policy caller day (found_by route caller.id day (tables h)) in
    files_listed policy h day caller wanted is views views (ap (views_found policy caller day)
    (found_alone h day caller route (routes_for policy caller wanted) e))
    (views_rising policy h day caller route is) (λ v there. there) (λ v there. (there.0, v, there.1, there.2, refl))

-- ---- what was passed on

-- a prefix of the rows gives a prefix of the listing
listed_apart : (policy : Policy) (h : History) (day : ℕ) (caller : Party) (wanted : Filter) → IsHistory h → (route : Route) →
    routes_for policy caller wanted ≡ route ∷ [] → (given rest : List Found)
    → found_by route caller.id day (tables h) ≡ given ++ rest → listing policy h day caller wanted ≡ views_found policy caller day given
    ++ views_found policy caller day rest
listed_apart policy h day caller wanted is route e given rest found =
    sym (one_listed policy h day caller wanted is route e) ∙ ap (views_found policy caller day) found ∙ views_append policy caller day given rest

-- the same of another route that finds the same rows
pub own_passed : {T : Type 0} (took : T → FileView → T → Bool → Type 0) (policy : Policy) (caller : Party) (day : ℕ) (route own : Route) (old new : StoreView)
    (before after : T) (result : Result RowsEnd StoreError) → ((number at : ℕ) (t : Tables) → found_by route number at t ≡ found_by own number at t) →
    PassedOn took policy caller day (route ∷ []) old new before after result → PassedOn took policy caller day (own ∷ []) old new before after result
own_passed took policy caller day route own old new before after result alike passed = record {
  given = passed.given;
  taken = passed.taken;
  handed = passed.handed;
  found = λ sure h is held.
      let found = passed.found sure h is held in
      (found.0, found.1, sym (alike caller.id day (tables h)) ∙ found.2);
}

module _ {T : Type 0} (took : T → FileView → T → Bool → Type 0) (policy : Policy) (h : History) (day : ℕ) (caller : Party) (wanted : Filter) (is : IsHistory h)
    (route : Route) where
  stopped_in : routes_for policy caller wanted ≡ route ∷ [] → (given rest : List Found) (old new : T) →
      found_by route caller.id day (tables h) ≡ given ++ rest → StopsAtLast took policy caller day given old new
      → StoppedIn took (listing policy h day caller wanted) old new
  stopped_in e given rest old new found stops =
      let views = views_found policy caller day in
      let one : views (stops.last ∷ []) ≡ view_found day stops.last ∷ [] = listed_alone policy caller day stops.last stops.listed in
      let front : views given ≡ views stops.passed ++ view_found day stops.last ∷ [] = ap views stops.order
      ∙ views_append policy caller day stops.passed (stops.last ∷ []) ∙ ap (λ vs. views stops.passed ++ vs) one in
      let whole : listing policy h day caller wanted ≡ views stops.passed ++ view_found day stops.last ∷ views rest =
      listed_apart policy h day caller wanted is route e given rest found ∙ ap (λ vs. vs ++ views rest) front
      ∙ append_assoc (views stops.passed) (view_found day stops.last ∷ []) (views rest) in
      (views stops.passed, view_found day stops.last, views rest, whole, stops.between, stops.taken, stops.stopped)

  began_of : (all views rest : List FileView) (old new : T) → all ≡ views ++ rest → BeganOf took views old new → BeganOf took all old new
  began_of all views rest old new e (given, left, apart, taken) =
      (given, left ++ rest, e ∙ ap (λ vs. vs ++ rest) apart ∙ append_assoc given left rest, taken)

  pub shown : routes_for policy caller wanted ≡ route ∷ [] → (old new : StoreView) (before after : T) (result : Result RowsEnd StoreError) →
      PassedOn took policy caller day (route ∷ []) old new before after result
      → new.doubt ≡ 0 → old.holds (tables h) → Shows took (Listed (listing policy h day caller wanted)) before after (end_of result)
  shown e old new before after (Ok (ended.All read)) passed sure held =
      let found = passed.found sure h is held in
      let all : listing policy h day caller wanted ≡ views_found policy caller day passed.given =
      sym (one_listed policy h day caller wanted is route e) ∙ ap (views_found policy caller day)
      (found.2 ∙ ap (λ rest. passed.given ++ rest) found.1 ∙ append-nil passed.given) in
      subst (λ (vs : List FileView). TookAll took vs before after) (sym all) passed.taken.1
  shown e old new before after (Ok ended.Stopped) passed sure held =
      let found = passed.found sure h is held in
      stopped_in e passed.given found.0 before after found.2 passed.taken
  shown e old new before after (Ok (ended.Refused why)) passed sure held = absurd passed.taken
  shown e old new before after (Err error) passed sure held =
      let found = passed.found sure h is held in
      began_of (listing policy h day caller wanted) (views_found policy caller day passed.given) (views_found policy caller day found.0) before after
      (listed_apart policy h day caller wanted is route e passed.given found.0 found.2) passed.taken

  pub opens : routes_for policy caller wanted ≡ route ∷ [] → (old new : StoreView) (before after : T) (result : Result RowsEnd StoreError) →
      PassedOn took policy caller day (route ∷ []) old new before after result
      → new.doubt ≡ 0 → old.holds (tables h) → OpensAt (Some (length (opened policy h day caller wanted))) (end_of result) old.handed new.handed
  opens e old new before after (Ok (ended.All read)) passed sure held =
      let found = passed.found sure h is held in
      let all : passed.given ≡ found_by route caller.id day (tables h) =
      sym (found.2 ∙ ap (λ rest. passed.given ++ rest) found.1 ∙ append-nil passed.given) in
      let count : length passed.given ≡ length (opened policy h day caller wanted) =
      ap length (all ∙ found_alone h day caller route (routes_for policy caller wanted) e) ∙ same_count policy h day caller wanted in (
        few_read read (length passed.given) (length (opened policy h day caller wanted)) passed.taken.0 count (few_opened policy h day caller wanted is),
        subst (λ n. HandedMore n old.handed new.handed) count passed.handed,
      )
  opens e old new before after (Ok ended.Stopped) passed sure held = tt
  opens e old new before after (Ok (ended.Refused why)) passed sure held = tt
  opens e old new before after (Err error) passed sure held = tt

  pub stops : routes_for policy caller wanted ≡ route ∷ [] → (old new : StoreView) (before after : T) (result : Result RowsEnd StoreError) →
      PassedOn took policy caller day (route ∷ []) old new before after result
      → new.doubt ≡ 0 → old.holds (tables h) → StopsFor took policy h caller day wanted (end_of result) before after old.handed new.handed
  stops e old new before after (Ok (ended.All read)) passed sure held = tt
  stops e old new before after (Ok ended.Stopped) passed sure held =
      let found = passed.found sure h is held in
      subst (λ (routes : List Route). StopsIn took policy h caller day wanted routes before after old.handed new.handed) (sym e)
      (passed.given, found.0, found.2, passed.taken, passed.handed)
  stops e old new before after (Ok (ended.Refused why)) passed sure held = tt
  stops e old new before after (Err error) passed sure held = tt

-- over any tables it is a listing of some files
pub shown_some : {T : Type 0} (took : T → FileView → T → Bool → Type 0) (policy : Policy) (caller : Party) (day : ℕ) (route : Route) (old new : StoreView)
    (before after : T) (result : Result RowsEnd StoreError)
    → PassedOn took policy caller day (route ∷ []) old new before after result → (files : List FileView) × Shows took (Listed files) before after (end_of result)
shown_some took policy caller day route old new before after (Ok (ended.All read)) passed = (views_found policy caller day passed.given, passed.taken.1)
shown_some took policy caller day route old new before after (Ok ended.Stopped) passed =
    let stops = passed.taken in
    let given = views_found policy caller day stops.passed in
    (given ++ view_found day stops.last ∷ [], (given, view_found day stops.last, [], refl, stops.between, stops.taken, stops.stopped))
shown_some took policy caller day route old new before after (Ok (ended.Refused why)) passed = absurd passed.taken
shown_some took policy caller day route old new before after (Err error) passed = (views_found policy caller day passed.given, passed.taken)

-- where a call of the store failed, nothing was taken
pub failed_some : {T : Type 0} (took : T → FileView → T → Bool → Type 0) (t : T) (result : Result RowsEnd StoreError) → IsErr result →
    (files : List FileView) × Shows took (Listed files) t t (end_of result)
failed_some took t (Ok end) failed = cc
failed_some took t (Err e) failed = ([], ([], [], refl, refl))

pub handed_at : {T : Type 0} (took : T → FileView → T → Bool → Type 0) (policy : Policy) (caller : Party) (day : ℕ) (route : Route) (old new : StoreView)
    (before after : T) (result : Result RowsEnd StoreError)
    → PassedOn took policy caller day (route ∷ []) old new before after result → HandedAt (end_of result) old.handed new.handed
handed_at took policy caller day route old new before after (Ok (ended.All read)) passed = (length passed.given, passed.taken.0, passed.handed)
handed_at took policy caller day route old new before after (Ok ended.Stopped) passed = tt
handed_at took policy caller day route old new before after (Ok (ended.Refused why)) passed = absurd passed.taken
handed_at took policy caller day route old new before after (Err error) passed = tt

-- ---- several selections, or none

pub stops_behind : {T : Type 0} (took : T → FileView → T → Bool → Type 0) (policy : Policy) (h : History) (caller : Party) (day : ℕ) (wanted : Filter)
    (routes : List Route) (before after : T) (old new : ℕ) → (length routes ≡ 1 → ⊥)
    → HandedMore (length (opened policy h day caller wanted)) old new → StopsIn took policy h caller day wanted routes before after old new
stops_behind took policy h caller day wanted [] before after old new several handed = handed
stops_behind took policy h caller day wanted (route ∷ []) before after old new several handed = absurd (several refl)
stops_behind took policy h caller day wanted (route ∷ (other ∷ routes)) before after old new several handed = handed
