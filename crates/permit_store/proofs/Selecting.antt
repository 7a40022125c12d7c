-- What a selection finds in a row and in a list of files, and what a taker took of it.
use Rattle.std.proofs.Common.{◌≡◌, ◌<◌, ◌≤◌, ◌+◌, ◌^◌, ◌%◌, ℕ, Bool, true, false, cond, List, [], ◌∷◌, ◌++◌, length, map, filter, get_or, take, drop, refl, sym}
use Rattle.std.proofs.Common.{◌∙◌, ap, subst, arith, length-append}
use Rattle.std.specs.List.{list_any}
use Rattle.std.specs.Prelude.{◌&&◌, ◌||◌, ⊤, IsPermutation, Option, Some, None, option_to_list, Result, Ok, Err, IsErr}
use Rattle.std.proofs.lemmas.List.{take_more, map-append, append-nil, take-append-drop}
use Rattle.std.proofs.lemmas.List.Elements.{filter-append}
use Rattle.std.proofs.lemmas.List.Sorted.{IsPermutation-refl}
use Rattle.permit_base.specs.declared.words.Relations.{Relations}
use Rattle.permit_base.specs.declared.route.Route.{Route}
use Rattle.permit_base.specs.declared.route.Route.TheVariants as route
use Rattle.permit_core.specs.Taking.{TookAll}
use Rattle.permit_model.specs.Caller.{Party}
use Rattle.permit_model.specs.Routes.{Found, is_found, relations_found, found_row, found_by}
use Rattle.permit_model.specs.Tables.{State, FileRow, Tables}
use Rattle.permit_store.specs.declared.plain.interests.Interests.{Interests}
use Rattle.permit_store.specs.declared.plain.parcels.Parcels.{Parcels}
use Rattle.permit_store.specs.declared.plain.select.Selection.{Selection}
use Rattle.permit_store.specs.Counts.{next_count}
use Rattle.permit_store.specs.Frames.{StoreView, Reads}
use Rattle.permit_store.specs.Handing.{more_handed, AreFound, AreHanded, AreAmong, Hands, is_found_by_any, found_by_any}
use Rattle.permit_store.specs.Finding.{lies_in, is_wanted}
use Rattle.permit_store.specs.Interests.{DeclareSame}
use Rattle.permit_store.specs.Plain.{KeptFile, Keeps, row_seen, rows_found, HandsOut}

-- a row is found where it lies in the cell and is wanted
found_parts : (r : Route) (caller day : ℕ) (found : Found) → is_found r caller day found
    ≡ (lies_in r day found.row.state && is_wanted r (relations_found caller found))
found_parts route.Every caller day found = refl
found_parts (route.Cell files s b t) caller day found = refl

-- one of the selections finds a row where it lies in its cell and is wanted by it
any_found : (routes : List Route) (caller day : ℕ) (found : Found) → is_found_by_any routes caller day found
    ≡ list_any (λ r. lies_in r day found.row.state && is_wanted r (relations_found caller found)) routes
any_found [] caller day found = refl
any_found (r ∷ routes) caller day found =
    ap (λ b. b || is_found_by_any routes caller day found) (found_parts r caller day found)
    ∙ ap (λ b. (lies_in r day found.row.state && is_wanted r (relations_found caller found)) || b) (any_found routes caller day found)

or-neither : (a b : Bool) → (a || b) ≡ false → (a ≡ false) × (b ≡ false)
or-neither true b e = cc
or-neither false b e = (refl, e)

-- where a row lies in the cell of none, none finds it
none_lies : (day : ℕ) (state : State) (set : Relations) (routes : List Route) → list_any (λ r. lies_in r day state) routes ≡ false →
    list_any (λ r. lies_in r day state && is_wanted r set) routes ≡ false
none_lies day state set [] e = refl
none_lies day state set (r ∷ routes) e =
    let neither = or-neither (lies_in r day state) (list_any (λ r. lies_in r day state) routes) e in
    ap (λ b. (b && is_wanted r set) || list_any (λ r. lies_in r day state && is_wanted r set) routes) neither.0
    ∙ none_lies day state set routes neither.1

-- what the selections find of one row
abbrev pub found_one : Selection → FileRow → List Found
found_one s row = filter (is_found_by_any s.routes.now s.caller s.day) (row_seen s row ∷ [])

found_by_parts : (s : Selection) (row : FileRow) (set : Relations) (wanted : Bool) → set ≡ relations_found s.caller (row_seen s row) →
    list_any (λ r. lies_in r s.day row.state && is_wanted r set) s.routes.now ≡ wanted → found_one s row ≡ cond wanted (row_seen s row ∷ []) []
found_by_parts s row set wanted es ew =
    ap (λ b. cond b (row_seen s row ∷ []) []) (any_found s.routes.now s.caller s.day (row_seen s row)
    ∙ ap (λ set. list_any (λ r. lies_in r s.day row.state && is_wanted r set) s.routes.now) (sym es) ∙ ew)

-- a row outside the cells isn't found
pub found_outside : (s : Selection) (row : FileRow) (lies : Bool) → lies ≡ list_any (λ r. lies_in r s.day row.state) s.routes.now → lies ≡ false →
    [] ≡ found_one s row
found_outside s row lies e f =
    let set = relations_found s.caller (row_seen s row) in
    sym (found_by_parts s row set false refl (none_lies s.day row.state set s.routes.now (sym e ∙ f)))

-- a row that isn't wanted isn't found
pub found_unwanted : (s : Selection) (row : FileRow) (set : Relations) (wanted : Bool) → set ≡ relations_found s.caller (row_seen s row) →
    wanted ≡ list_any (λ r. lies_in r s.day row.state && is_wanted r set) s.routes.now → wanted ≡ false → [] ≡ found_one s row
found_unwanted s row set wanted es e f = sym (found_by_parts s row set false es (sym e ∙ f))

-- a row that is wanted by a selection in whose cell it lies is found
pub found_wanted : (s : Selection) (row : FileRow) (set : Relations) (wanted : Bool) (found : Found) → set ≡ relations_found s.caller (row_seen s row) →
    wanted ≡ list_any (λ r. lies_in r s.day row.state && is_wanted r set) s.routes.now → wanted ≡ true → found ≡ row_seen s row → found ∷ [] ≡ found_one s row
found_wanted s row set wanted found es e f ef = ap (λ x. x ∷ []) ef ∙ sym (found_by_parts s row set true es (sym e ∙ f))

-- what is found of a row, of one that is the same
pub found_some : (s : Selection) (row later : FileRow) (answer : Option Found) (found : Found) → answer ≡ Some found → option_to_list answer ≡ found_one s row →
    row ≡ later → found ∷ [] ≡ found_one s later
found_some s row later answer found e f same = ap option_to_list (sym e) ∙ f ∙ ap (found_one s) same

pub found_none : (s : Selection) (row later : FileRow) (answer : Option Found) → answer ≡ None → option_to_list answer ≡ found_one s row → row ≡ later →
    [] ≡ found_one s later
found_none s row later answer e f same = ap option_to_list (sym e) ∙ f ∙ ap (found_one s) same

-- ---- a list of files

rows_append : (s : Selection) (before after : List KeptFile) → rows_found s (before ++ after) ≡ rows_found s before ++ rows_found s after
rows_append s before after =
    ap (filter (is_found_by_any s.routes.now s.caller s.day)) (map-append (λ (k : KeptFile). row_seen s k.row) before after)
    ∙ filter-append (is_found_by_any s.routes.now s.caller s.day) (map (λ k. row_seen s k.row) before) (map (λ k. row_seen s k.row) after)

-- the rows of one file more
pub rows_more : (s : Selection) (files : List KeptFile) (i : ℕ) (d : KeptFile) (found : List Found) → i < length files →
    found ≡ found_one s (get_or files i d).row
    → rows_found s (take (i + 1) files) ≡ rows_found s (take i files) ++ found
rows_more s files i d found h e =
    ap (rows_found s) (take_more files i d h) ∙ rows_append s (take i files) (get_or files i d ∷ []) ∙ ap (λ f. rows_found s (take i files) ++ f) (sym e)

-- the rows of the files before and from a place
rows_split : (s : Selection) (files : List KeptFile) (i : ℕ) → rows_found s (take i files) ++ rows_found s (drop i files) ≡ rows_found s files
rows_split s files i = sym (rows_append s (take i files) (drop i files)) ∙ ap (rows_found s) (take-append-drop i files)

-- ---- a taker

-- it took one more
took_more : {T I : Type 0} (took : T → I → T → Bool → Type 0) (items : List I) (item : I) (a b c : T) → TookAll took items a b → took b item c true →
    TookAll took (items ++ item ∷ []) a c
took_more took [] item a b c e t = (c, subst (λ x. took x item c true) e t, refl)
took_more took (first ∷ items) item a b c w t = (w.0, w.1, took_more took items item w.0 b c w.2 t)

-- one more is counted
count_more : (items : List Found) (item : Found) (n m : ℕ) → m ≡ more_handed (length items) n → (m + 1) % 2 ^ 64 ≡ more_handed (length (items ++ item ∷ [])) n
count_more items item n m e = rw (length-append items (item ∷ []), e) (omega arith)

-- the taker took these rows, and each was counted
pub record IsHanded {T : Type 0} (took : T → Found → T → Bool → Type 0) (given : List Found) (old new : ℕ) (before after : T) : Type 0 where
  pub taken : TookAll took given before after
  pub count : new ≡ more_handed (length given) old

module _ {T : Type 0} (took : T → Found → T → Bool → Type 0) (s : Selection) (files : List KeptFile) (n : ℕ) (a : T) where
  -- the next file isn't found
  pub handed_none : (i : ℕ) (d : KeptFile) (m : ℕ) (b : T) → i < length files → [] ≡ found_one s (get_or files i d).row
      → IsHanded took (rows_found s (take i files)) n m a b → IsHanded took (rows_found s (take (i + 1) files)) n m a b
  handed_none i d m b h e p =
      let same : rows_found s (take (i + 1) files) ≡ rows_found s (take i files) = rows_more s files i d [] h e ∙ append-nil (rows_found s (take i files)) in
      rw same p

  -- the next file is found, and the taker goes on
  pub handed_one : (i : ℕ) (d : KeptFile) (m : ℕ) (b c : T) (item : Found) → i < length files → item ∷ [] ≡ found_one s (get_or files i d).row
      → IsHanded took (rows_found s (take i files)) n m a b → took b item c true → IsHanded took (rows_found s (take (i + 1) files)) n ((m + 1) % 2 ^ 64) a c
  handed_one i d m b c item h e p t =
      let given = rows_found s (take i files) in
      rw (rows_more s files i d (item ∷ []) h e) (record { taken = took_more took given item a b c p.taken t; count = count_more given item n m p.count })

  -- the next file is found, and the taker stops
  pub handed_last : {E : Type 0} (i : ℕ) (d : KeptFile) (m : ℕ) (b c : T) (item : Found) → i < length files → item ∷ [] ≡ found_one s (get_or files i d).row
      → IsHanded took (rows_found s (take i files)) n m a b → took b item c false →
      HandsOut {E = E} took (rows_found s files) n ((m + 1) % 2 ^ 64) a c (Ok false)
  handed_last i d m b c item h e p t =
      let before = rows_found s (take i files) in
      let rest = rows_found s (drop (i + 1) files) in
      record {
        given = before ++ item ∷ [];
        rest = rest;
        whole = ap (λ given. given ++ rest) (sym (rows_more s files i d (item ∷ []) h e)) ∙ rows_split s files (i + 1);
        taken = (before, item, refl, b, p.taken, t);
        left = tt;
        count = count_more before item n m p.count;
      }

  -- an error ends it
  pub handed_err : {E : Type 0} (i : ℕ) (m : ℕ) (b : T) (result : Result Bool E) → IsErr result
      → IsHanded took (rows_found s (take i files)) n m a b → HandsOut took (rows_found s files) n m a b result
  handed_err i m b (Ok all) e p = cc
  handed_err i m b (Err error) e p = record {
    given = rows_found s (take i files);
    rest = rows_found s (drop i files);
    whole = rows_split s files i;
    taken = p.taken;
    left = tt;
    count = p.count;
  }

  -- the files end it
  pub handed_all : {E : Type 0} (m : ℕ) (b : T) → IsHanded took (rows_found s files) n m a b → HandsOut {E = E} took (rows_found s files) n m a b (Ok true)
  handed_all m b p = record {
    given = rows_found s files;
    rest = [];
    whole = append-nil (rows_found s files);
    taken = p.taken;
    left = refl;
    count = p.count;
  }

-- ---- the tables

row_same : (s : Selection) (t : Tables) (row : FileRow) → s.parcels.now.rows.items ≡ t.parcels → DeclareSame s.interests.now.rows.items t.interests →
    row_seen s row ≡ found_row t s.caller row
row_same s t row ep ei = rw (ep, ei row.state.parcel s.caller) refl

rows_same : (s : Selection) (t : Tables) (files : List KeptFile) → s.parcels.now.rows.items ≡ t.parcels → DeclareSame s.interests.now.rows.items t.interests
    → map (λ k. row_seen s k.row) files ≡ map (found_row t s.caller) (map (λ k. k.row) files)
rows_same s t [] ep ei = refl
rows_same s t (k ∷ files) ep ei =
    ap (λ found. found ∷ map (λ k. row_seen s k.row) files) (row_same s t k.row ep ei)
    ∙ ap (λ rows. found_row t s.caller k.row ∷ rows) (rows_same s t files ep ei)

-- what the selections find of the files that are kept is what they find in the tables
-- the selection over vectors, as a call makes it
abbrev pub selection_of : List Route → ℕ → ℕ → Parcels → Interests → Selection
selection_of routes caller day parcels interests = record {
  routes = record { ref_ptr = (0, 0); now = routes };
  caller = caller;
  day = day;
  parcels = record { ref_ptr = (0, 0); now = parcels };
  interests = record { ref_ptr = (0, 0); now = interests };
}

pub found_in_tables : (upgrade last : ℕ) (parties : List Party) (s : Selection) (files seen : List KeptFile) (t : Tables)
    → seen ≡ files → Keeps upgrade last parties s.parcels.now.rows.items s.interests.now.rows.items files t →
    rows_found s seen ≡ found_by_any s.routes.now s.caller s.day t
found_in_tables upgrade last parties s files seen t ef k =
    let p : Found → Bool = is_found_by_any s.routes.now s.caller s.day in
    ap (rows_found s) ef
    ∙ ap (filter p) (rows_same s t files (sym k.parcels) (λ a b. sym (k.interests a b)))
    ∙ ap (λ rows. filter p (map (found_row t s.caller) rows)) (sym k.files)

or-false : (b : Bool) → (b || false) ≡ b
or-false true = refl
or-false false = refl

-- one selection finds what it finds among none others
one_of_one : (r : Route) (caller day : ℕ) (rows : List Found) → filter (is_found_by_any (r ∷ []) caller day) rows ≡ filter (is_found r caller day) rows
one_of_one r caller day [] = refl
one_of_one r caller day (row ∷ rows) =
    ap (λ b. cond b (row ∷ filter (is_found_by_any (r ∷ []) caller day) rows) (filter (is_found_by_any (r ∷ []) caller day) rows))
    (or-false (is_found r caller day row))
    ∙ ap (λ found. cond (is_found r caller day row) (row ∷ found) found) (one_of_one r caller day rows)

-- what a single selection finds
pub found_by_one : (r : Route) (caller day : ℕ) (t : Tables) → found_by_any (r ∷ []) caller day t ≡ found_by r caller day t
found_by_one r caller day t = one_of_one r caller day (map (found_row t caller) t.files)

-- rows that are those found, in their order
pub are_found : (t : Tables) (given found : List Found) → given ≡ found → AreFound t given found
are_found t given found e = record { same = subst (λ xs. IsPermutation given xs) e (IsPermutation-refl given); order = λ _. e }

-- what was handed out, by the answer of the call around it
pub told_ok : {T E F : Type 0} (took : T → Found → T → Bool → Type 0) (found : List Found) (n m : ℕ) (a b : T) (inner : Result Bool E) (all : Bool) →
    inner ≡ Ok all
    → HandsOut took found n m a b inner → HandsOut {E = F} took found n m a b (Ok all)
told_ok took found n m a b inner true e p =
    let q = subst (λ r. HandsOut took found n m a b r) e p in record {
      given = q.given;
      rest = q.rest;
      whole = q.whole;
      taken = q.taken;
      left = q.left;
      count = q.count;
    }
told_ok took found n m a b inner false e p =
    let q = subst (λ r. HandsOut took found n m a b r) e p in record {
      given = q.given;
      rest = q.rest;
      whole = q.whole;
      taken = q.taken;
      left = q.left;
      count = q.count;
    }

pub told_err : {T E F : Type 0} (took : T → Found → T → Bool → Type 0) (found : List Found) (n m : ℕ) (a b : T) (inner : Result Bool E) (error : E)
    (outer : Result Bool F) → inner ≡ Err error → IsErr outer
    → HandsOut took found n m a b inner → HandsOut took found n m a b outer
told_err took found n m a b inner error (Ok all) e h p = cc
told_err took found n m a b inner error (Err other) e h p =
    let q = subst (λ r. HandsOut took found n m a b r) e p in record {
      given = q.given;
      rest = q.rest;
      whole = q.whole;
      taken = q.taken;
      left = q.left;
      count = q.count;
    }

-- a call that failed reads
pub reads_failed : {A E : Type 0} (old new : StoreView) (result : Result A E) → IsErr result → ((t : Tables) → old.holds t → new.holds t) →
    old.doubt ≤ new.doubt
    → new.failed ≡ next_count old.failed → new.commits ≡ old.commits → Reads ⊤ new.handed old new result
reads_failed old new (Ok answer) e kept doubt failed commits = cc
reads_failed old new (Err error) e kept doubt failed commits = record {
  kept = kept;
  one = λ _ _. tt;
  doubt = doubt;
  failed = failed;
  commits = commits;
  handed = refl;
}

-- what was handed out of the rows found in each of the tables that a store holds
pub hands : {T E : Type 0} (took : T → Found → T → Bool → Type 0) (found : List Found) (found_in : Tables → List Found) (old new : StoreView) (a b : T)
    (result : Result Bool E)
    → ((t : Tables) → old.holds t → found ≡ found_in t) → Reads ⊤ new.handed old new result → HandsOut took found old.handed new.handed a b result
    → (given : List Found) × Hands took given old new a b result × (new.doubt ≡ 0 → (t : Tables) → old.holds t → AreHanded t result given (found_in t))
hands took found found_in old new a b result same r p = (
  p.given,
  record { taken = p.taken; read = record { kept = r.kept; one = r.one; doubt = r.doubt; failed = r.failed; commits = r.commits; handed = p.count } },
  λ _ t h. (p.rest, p.left, are_found t (p.given ++ p.rest) (found_in t) (p.whole ∙ same t h)),
)

-- the same, where the order isn't given
pub hands_among : {T E : Type 0} (took : T → Found → T → Bool → Type 0) (found : List Found) (found_in : Tables → List Found) (old new : StoreView) (a b : T)
    (result : Result Bool E)
    → ((t : Tables) → old.holds t → found ≡ found_in t) → Reads ⊤ new.handed old new result → HandsOut took found old.handed new.handed a b result
    → (given : List Found) × Hands took given old new a b result × (new.doubt ≡ 0 → (t : Tables) → old.holds t → AreAmong result given (found_in t))
hands_among took found found_in old new a b result same r p = (
  p.given,
  record { taken = p.taken; read = record { kept = r.kept; one = r.one; doubt = r.doubt; failed = r.failed; commits = r.commits; handed = p.count } },
  λ _ t h. (p.rest, p.left, (are_found t (p.given ++ p.rest) (found_in t) (p.whole ∙ same t h)).same),
)
