-- The selections of a listing find the rows that its routes find, as often.
use Rattle.std.proofs.Common.{cond}
use Rattle.std.proofs.Common.{◌≡◌, ◌≤◌, refl, ap, sym, ◌∙◌, Bool, true, false, ◌&&◌, ℕ, List, [], ◌∷◌, ◌++◌, length, map, filter, arith}
use Rattle.std.specs.Prelude.{IsPermutation, ◌||◌, if◌then◌else◌}
use Rattle.std.specs.List.{flat_map, list_any, list_all, AllByRecursion}
use Rattle.std.proofs.lemmas.List.Elements.{filter_agree}
use Rattle.permit_base.specs.declared.request.Filter.{Filter}
use Rattle.permit_base.specs.declared.route.By.{By}
use Rattle.permit_base.specs.declared.route.Route.{Route}
use Rattle.permit_base.specs.declared.route.Route.TheVariants as route
use Rattle.permit_model.specs.Days.{timing_on}
use Rattle.permit_model.specs.Opened.{Cell, Allowed}
use Rattle.permit_model.specs.Routes.{kept_cells, route_by, is_open_to_all, is_all, routes_of, Found, found_row, relations_found, is_by, is_found, found_by}
use Rattle.permit_model.specs.Search.{how_many}
use Rattle.permit_model.specs.SoundState.{is_stored}
use Rattle.permit_model.specs.Tables.{Tables}
use Rattle.permit_model.proofs.FoundFiles.{left_of, right_of, marks, fits, kept_cell_once}
use Rattle.permit_model.proofs.Selecting.{bit, how_many-cons, how_many-append, how_many-map, how_many-filter, some_counted, everywhere, same_selected}
use Rattle.permit_policy.specs.Selections.{all_bys, is_opened, selection, has_routes, selections_by_cells, selections_of}
use Rattle.permit_policy.proofs.SameRoutes.{selected, same_counts}
use Rattle.permit_store.specs.Handing.{is_found_by_any, found_by_any}

-- ---- counts

-- a weaker test counts no fewer
weaker : {A : Type 0} (p q : A → Bool) → ((x : A) → p x ≡ true → q x ≡ true) → (xs : List A) → how_many p xs ≤ how_many q xs
weaker p q f [] = omega arith
weaker p q f (x ∷ xs) = omega (arith, how_many-cons p x xs, how_many-cons q x xs, bits (p x) (q x) (f x), weaker p q f xs)
  where
    bits : (a b : Bool) → (a ≡ true → b ≡ true) → bit a ≤ bit b
    bits true b h = rw (h refl) (omega arith)
    bits false b h = omega arith

none_counted : {A : Type 0} (p : A → Bool) (xs : List A) → list_any p xs ≡ false → how_many p xs ≡ 0
none_counted p [] h = refl
none_counted p (x ∷ xs) h = either (p x) refl h (none_counted p xs)
  where
    either : (b : Bool) → p x ≡ b → (b || list_any p xs) ≡ false → (list_any p xs ≡ false → how_many p xs ≡ 0) → how_many p (x ∷ xs) ≡ 0
    either true e k ih = cc
    either false e k ih = omega (arith, how_many-cons p x xs, ap bit e, ih k)

-- whether one passes is how many pass, where it is one at most
once : {A : Type 0} (p : A → Bool) (xs : List A) → how_many p xs ≤ 1 → bit (list_any p xs) ≡ how_many p xs
once p xs few = either (list_any p xs) refl
  where
    either : (b : Bool) → list_any p xs ≡ b → bit b ≡ how_many p xs
    either true e = omega (arith, some_counted p xs e, few)
    either false e = sym (none_counted p xs e)

bit_most : (b : Bool) → bit b ≤ 1
bit_most true = omega arith
bit_most false = omega arith

-- as many groups have one that passes as items pass, where no group has two
grouped : {A : Type 0} (p : A → Bool) (groups : List (List A)) → AllByRecursion (λ g. how_many p g ≤ 1) groups →
    how_many (list_any p) groups ≡ how_many p (flat_map (λ g. g) groups)
grouped p [] few = refl
grouped p (g ∷ groups) few = omega (
  arith,
  how_many-cons (list_any p) g groups,
  how_many-append p g (flat_map (λ g. g) groups),
  once p g few.0,
  grouped p groups few.1,
)

-- ---- one row

module _ (caller day : ℕ) (x : Found) where
  abbrev finds : Route → Bool
  finds r = is_found r caller day x

  -- the cell that the row lies in
  abbrev marked : Cell → Bool
  marked cell = marks x.row.state.stage x.row.state.stopped (timing_on day x.row.state.deadline) cell

  marked_once : how_many marked kept_cells ≤ 1
  marked_once =
      let stored = is_stored x.row.state.stage && fits x.row.state.stage (timing_on day x.row.state.deadline) in
      omega (arith, kept_cell_once x.row.state.stage x.row.state.stopped (timing_on day x.row.state.deadline), bit_most stored)

  -- of the routes that ask the same of the caller, one at most finds the row: it lies in one cell
  once_in : (allowed : Allowed) (wanted : Filter) (asked : By) → how_many finds (selection allowed wanted asked) ≤ 1
  once_in allowed wanted asked =
      let opened : Cell → Bool = is_opened allowed wanted asked in
      let by : Cell → Bool = λ cell. marked cell && is_by asked (relations_found caller x) in
      let mapped : how_many finds (selection allowed wanted asked) ≡ how_many by (filter opened kept_cells) =
      how_many-map (λ cell. route_by cell asked) finds (filter opened kept_cells) in
      let kept : how_many by (filter opened kept_cells) ≡ how_many (λ cell. opened cell && by cell) kept_cells = how_many-filter opened by kept_cells in
      let few : how_many (λ cell. opened cell && by cell) kept_cells ≤ how_many marked kept_cells =
      weaker (λ cell. opened cell && by cell) marked
      (λ cell h. left_of (marked cell) (is_by asked (relations_found caller x)) (right_of (opened cell) (by cell) h)) kept_cells in
      omega (arith, mapped, kept, few, marked_once)

  few_each : (allowed : Allowed) (wanted : Filter) (bys : List By) → AllByRecursion (λ g. how_many finds g ≤ 1) (map (selection allowed wanted) bys)
  few_each allowed wanted [] = tt
  few_each allowed wanted (asked ∷ bys) = (once_in allowed wanted asked, few_each allowed wanted bys)

  few_all : (allowed : Allowed) (wanted : Filter) (b : Bool) →
      AllByRecursion (λ g. how_many finds g ≤ 1) (if b then (route.Every ∷ []) ∷ [] else selections_by_cells allowed wanted)
  few_all allowed wanted true = (omega arith, tt)
  few_all allowed wanted false =
      few_each allowed wanted (filter (λ asked. has_routes (selection allowed wanted asked)) all_bys)

  pub same_finders : (allowed : Allowed) (wanted : Filter) →
      how_many (λ g. is_found_by_any g caller day x) (selections_of allowed wanted) ≡ how_many finds (routes_of allowed wanted)
  same_finders allowed wanted =
      grouped finds (selections_of allowed wanted) (few_all allowed wanted (is_all wanted && list_all (is_open_to_all allowed) kept_cells))
      ∙ same_counts finds allowed wanted

-- the rows found
pub selections_find : (allowed : Allowed) (wanted : Filter) (caller day : ℕ) (t : Tables) →
    IsPermutation (flat_map (λ g. found_by_any g caller day t) (selections_of allowed wanted)) (flat_map (λ r. found_by r caller day t) (routes_of allowed wanted))
selections_find allowed wanted caller day t =
    let rows = map (found_row t caller) t.files in
    same_selected (λ (g : List Route) (x : Found). is_found_by_any g caller day x) (λ (r : Route) (x : Found). is_found r caller day x)
    (selections_of allowed wanted) (routes_of allowed wanted) rows
    (everywhere (λ x. how_many (λ g. is_found_by_any g caller day x) (selections_of allowed wanted) ≡ how_many (λ r. is_found r caller day x) (routes_of allowed wanted))
    (λ x. same_finders caller day x allowed wanted) rows)

-- ---- one route

abbrev IsFull : List Route → Type 0
IsFull g = has_routes g ≡ true

none_left : (gs : List (List Route)) → AllByRecursion IsFull gs → how_many (λ r. true) (flat_map (λ g. g) gs) ≡ 0 → gs ≡ []
none_left [] all e = refl
none_left ([] ∷ gs) all e = let bad : false ≡ true = all.0 in cc
none_left ((r ∷ s) ∷ gs) all e = absurd (omega (arith, how_many-cons {A = Route} (λ q. true) r (s ++ flat_map (λ g. g) gs), e))

empty : (s : List Route) → how_many (λ r. true) s ≡ 0 → s ≡ []
empty [] e = refl
empty (r ∷ s) e = absurd (omega (arith, how_many-cons {A = Route} (λ q. true) r s, e))

-- where there is one route in all, it is a selection by itself
single : (gs : List (List Route)) → AllByRecursion IsFull gs → how_many (λ r. true) (flat_map (λ g. g) gs) ≡ 1 → (r : Route) × (gs ≡ (r ∷ []) ∷ [])
single [] all e = absurd (omega (arith, e))
single ([] ∷ gs) all e = let bad : false ≡ true = all.0 in cc
single ((r ∷ s) ∷ gs) all e =
    let first = how_many-cons {A = Route} (λ q. true) r (s ++ flat_map (λ g. g) gs) in
    let both = how_many-append {A = Route} (λ q. true) s (flat_map (λ g. g) gs) in (
      r,
      ap (λ t. (r ∷ t) ∷ gs) (empty s (omega (arith, first, both, e))) ∙ ap (λ hs. (r ∷ []) ∷ hs) (none_left gs all.1 (omega (arith, first, both, e))),
    )

full_by : (each : By → List Route) (asked : By) (bys : List By) (b : Bool) → has_routes (each asked) ≡ b → AllByRecursion IsFull (map each bys) →
    AllByRecursion IsFull (map each (cond b (asked ∷ bys) bys))
full_by each asked bys true e all = (e, all)
full_by each asked bys false e all = all

full_selected : (each : By → List Route) (bys : List By) → AllByRecursion IsFull (selected each bys)
full_selected each [] = tt
full_selected each (asked ∷ bys) =
    full_by each asked (filter (λ b. has_routes (each b)) bys) (has_routes (each asked)) refl (full_selected each bys)

full_all : (allowed : Allowed) (wanted : Filter) (b : Bool) →
    AllByRecursion IsFull (if b then (route.Every ∷ []) ∷ [] else selections_by_cells allowed wanted)
full_all allowed wanted true = (refl, tt)
full_all allowed wanted false = full_selected (selection allowed wanted) all_bys

all_counted : {A : Type 0} (xs : List A) → how_many (λ x. true) xs ≡ length xs
all_counted [] = refl
all_counted (x ∷ xs) = omega (arith, how_many-cons (λ y. true) x xs, all_counted xs)

-- a listing of one route has one selection of one route
pub one_selection : (allowed : Allowed) (wanted : Filter) → length (routes_of allowed wanted) ≡ 1 →
    (r : Route) × (selections_of allowed wanted ≡ (r ∷ []) ∷ [])
one_selection allowed wanted e =
    single (selections_of allowed wanted) (full_all allowed wanted (is_all wanted && list_all (is_open_to_all allowed) kept_cells))
    (same_counts (λ r. true) allowed wanted ∙ all_counted (routes_of allowed wanted) ∙ e)

-- Of a selection of one route, the listing has one route, and both find the same rows.
pub record OneRoute (allowed : Allowed) (wanted : Filter) (r : Route) : Type 0 where
  pub own : Route
  pub alone : routes_of allowed wanted ≡ own ∷ []
  pub alike : (caller day : ℕ) (t : Tables) → found_by r caller day t ≡ found_by own caller day t

same_bit : (a b : Bool) → bit a ≡ bit b → a ≡ b
same_bit true true e = refl
same_bit true false e = absurd (omega (arith, e))
same_bit false true e = absurd (omega (arith, e))
same_bit false false e = refl

alone_of : {A : Type 0} (xs : List A) → length xs ≡ 1 → (x : A) × (xs ≡ x ∷ [])
alone_of [] e = absurd (omega (arith, e))
alone_of (x ∷ []) e = (x, refl)
alone_of (x ∷ (y ∷ xs)) e = absurd (omega (arith, e))

pub one_route : (allowed : Allowed) (wanted : Filter) (r : Route) → selections_of allowed wanted ≡ (r ∷ []) ∷ [] → OneRoute allowed wanted r
one_route allowed wanted r e =
    let counts : (f : Route → Bool) → how_many f (r ∷ []) ≡ how_many f (routes_of allowed wanted) =
    λ f. ap (λ gs. how_many f (flat_map (λ (g : List Route). g) gs)) (sym e) ∙ same_counts f allowed wanted in
    let own = alone_of (routes_of allowed wanted) (sym (counts (λ q. true) ∙ all_counted (routes_of allowed wanted))) in
    record {
      own = own.0;
      alone = own.1;
      alike = λ caller day t.
          filter_agree (is_found r caller day) (is_found own.0 caller day)
          (λ x. same_bit (is_found r caller day x) (is_found own.0 caller day x)
          (omega (
            arith,
            how_many-cons (λ q. is_found q caller day x) r [],
            how_many-cons (λ q. is_found q caller day x) own.0 [],
            counts (λ q. is_found q caller day x) ∙ ap (how_many (λ q. is_found q caller day x)) own.1,
          )))
          (map (found_row t caller) t.files);
    }
