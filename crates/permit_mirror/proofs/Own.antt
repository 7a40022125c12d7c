-- A listing of files to which the caller has a relation, by an index that covers the tables.
use Rattle.std.proofs.Common.{◌≡◌, ◌<◌, ℕ, ◌^◌, ◌==◌, Bool, true, false, cond, inl, inr, List, [], ◌∷◌, ◌++◌, filter, map, refl, sym, ◌∙◌, ap, subst, arith}
use Rattle.std.specs.Prelude.{◌⊎◌, ◌||◌, Option, Some, None, Result, Ok, Err, OnOk, IsErr}
use Rattle.std.specs.List.{AllByRecursion, list_any, list_all}
use Rattle.std.proofs.lemmas.Bool.{eqb-true, and_parts}
use Rattle.std.proofs.lemmas.List.Sorted.{IsPermutation-refl}
use Rattle.std.specs.Prelude.{IsPermutation}
use Rattle.permit_base.specs.declared.route.By.TheVariants as by
use Rattle.permit_base.specs.declared.route.Route.{Route}
use Rattle.permit_base.specs.declared.route.Route.TheVariants.{Every, Cell}
use Rattle.permit_base.specs.declared.words.Relation.{Relation}
use Rattle.permit_base.specs.declared.words.Relation.TheVariants as relation
use Rattle.permit_base.specs.Relations.{holds}
use Rattle.permit_model.specs.Search.{is_the_party}
use Rattle.permit_model.specs.Routes.{Found, found_row, found_by, is_by, is_found, is_kept_in, relations_found}
use Rattle.permit_model.specs.Tables.{FileRow, Tables}
use Rattle.permit_store.specs.Counts.{failed_after}
use Rattle.permit_store.specs.Frames.{StoreView, HasOneDesk}
use Rattle.permit_store.specs.Handing.{AreFound, Hands, IsLeft, Took, found_by_any, is_found_by_any}
use Rattle.permit_mirror.specs.declared.index.Index.{Index}
use Rattle.permit_mirror.specs.Covered.{covered}
use Rattle.permit_mirror.specs.Index.{Covers, IsThere}
use Rattle.permit_mirror.specs.Pairs.{has, RiseFrom}
use Rattle.permit_mirror.specs.Search.{HandsOut, found_at, is_by_relation}
use Rattle.permit_mirror.proofs.Exact.{AreAmongNumbers, exact}

party_told : (o : Option ℕ) (n : ℕ) → is_the_party o n ≡ true → o ≡ Some n
party_told None n e = cc
party_told (Some m) n e = ap (λ k. Some k) (eqb-true m n e)

any_told : {X : Type 0} (p : X → Bool) (x : X) (xs : List X) (b : Bool) → p x ≡ b → (p x || list_any p xs) ≡ true → (p x ≡ true) ⊎ (list_any p xs ≡ true)
any_told p x xs true e h = inl e
any_told p x xs false e h = inr (ap (λ b. b || list_any p xs) (sym e) ∙ h)

module _ (index : Index) (t : Tables) (caller : ℕ) (covers : Covers index t) where
  -- a file to which the caller has a relation is one of the caller's
  by_relation : (row : FileRow) → IsThere index row.id row.state → (r : Relation) → holds (relations_found caller (found_row t caller row)) r ≡ true
      → has index.files_of caller row.id ≡ true
  by_relation row there relation.Applicant e = there.related.applicant caller (ap (λ k. Some k) (eqb-true row.state.applicant caller e))
  by_relation row there relation.Contractor e = there.related.contractor caller (party_told row.state.contractor caller e)
  by_relation row there relation.Owner e =
      index.closed row.state.parcel row.id caller there.placed (covers.owners row.state.parcel caller (party_told _ caller e))
  by_relation row there relation.AssignedReviewer e = there.related.reviewer caller (party_told row.state.reviewer caller e)
  by_relation row there relation.AssignedInspector e = there.related.inspector caller (party_told row.state.inspector caller e)
  by_relation row there relation.Conflict e = index.closed row.state.parcel row.id caller there.placed (covers.interests row.state.parcel caller e)

  by_route : (day : ℕ) (row : FileRow) → IsThere index row.id row.state → (r : Route) → is_by_relation r ≡ true → is_found r caller day (found_row t caller row) ≡ true
      → has index.files_of caller row.id ≡ true
  by_route day row there Every asks e = cc
  by_route day row there (Cell by.Whole s b w) asks e = cc
  by_route day row there (Cell (by.One r) s b w) asks e = by_relation row there r
      (and_parts (is_kept_in s b w day row.state) (is_by (by.One r) (relations_found caller (found_row t caller row))) e).1
  by_route day row there (Cell (by.Two q r) s b w) asks e =
      let set = relations_found caller (found_row t caller row) in
      by_relation row there q (and_parts (holds set q) (holds set r) (and_parts (is_kept_in s b w day row.state) (is_by (by.Two q r) set) e).1).0

  by_any : (day : ℕ) (row : FileRow) → IsThere index row.id row.state → (routes : List Route) → list_all is_by_relation routes ≡ true
      → is_found_by_any routes caller day (found_row t caller row) ≡ true → has index.files_of caller row.id ≡ true
  by_any day row there [] asks e = cc
  by_any day row there (r ∷ routes) asks e =
      let all = and_parts (is_by_relation r) (list_all is_by_relation routes) asks in
      elim (any_told (λ r. is_found r caller day (found_row t caller row)) r routes _ refl e)
      [ inl h ↦ by_route day row there r all.0 h | inr h ↦ by_any day row there routes all.1 h ]

  among : (day : ℕ) (routes : List Route) (numbers : List ℕ) → list_all is_by_relation routes ≡ true → ((n : ℕ) → list_any (λ m. m == n) numbers ≡ has index.files_of caller n)
      → (files : List FileRow) → AllByRecursion (λ (f : FileRow). IsThere index f.id f.state) files
      → AreAmongNumbers (is_found_by_any routes caller day) (found_row t caller) numbers files
  among day routes numbers asks same [] all = tt
  among day routes numbers asks same (f ∷ files) all =
      (λ e. same f.id ∙ by_any day f all.0 routes asks e, among day routes numbers asks same files all.1)

  -- what is found among the caller's files is all that is found
  pub found_own : (day : ℕ) (routes : List Route) (numbers : List ℕ) → list_all is_by_relation routes ≡ true → RiseFrom 0 numbers
      → ((n : ℕ) → list_any (λ m. m == n) numbers ≡ has index.files_of caller n) → found_at routes caller day t numbers ≡ found_by_any routes caller day t
  found_own day routes numbers asks rise same = exact routes caller day t numbers covers.numbered rise (among day routes numbers asks same t.files covers.there)

-- ---- what is handed out

on_ok : {A E P : Type 0} (r : Result A E) → P → OnOk r P
on_ok (Ok a) p = p
on_ok (Err e) p = tt

-- a call that hands out rows of memory, and leaves the index
pub hands : {T E : Type 0} (took : T → Found → T → Bool → Type 0) (memory later : StoreView) (index same : Index) (handed more n failed fails commits all : ℕ)
    (a b : T) (result r : Result Bool E) (found found_in : Tables → List Found) → same ≡ index → more ≡ n → result ≡ r → ((t : Tables) → memory.holds t → later.holds t)
    → HasOneDesk later → fails ≡ failed_after r failed → all ≡ commits → ((t : Tables) → Covers index t → found t ≡ found_in t)
    → HandsOut took memory.holds found handed n a b r
    → (given : List Found) × Hands took given (covered memory index handed failed commits) (covered later same more fails all) a b result
    × ((t : Tables) → memory.holds t × Covers index t → (rest : List Found) × IsLeft result rest × (given ++ rest ≡ found_in t))
hands {E = E} took memory later index same handed more n failed fails commits all a b result r found found_in e em er kept one ef ec exactly out = (
  out.given,
  record {
    taken = subst (λ (x : Result Bool E). Took took out.given a b x) (sym er) out.taken;
    read = record {
      kept = λ t h. (kept t h.0, subst (λ (i : Index). Covers i t) (sym e) h.1);
      one = λ _ _. on_ok result (λ t u h k. one t u h.0 k.0);
      doubt = omega arith;
      failed = ef ∙ ap (λ (x : Result Bool E). failed_after x failed) (sym er);
      commits = ec;
      handed = em ∙ out.count;
    };
  },
  λ t h.
      let w = out.whole t h.0 in
      (w.0, subst (λ (x : Result Bool E). IsLeft x w.0) (sym er) w.1, w.2 ∙ exactly t h.1),
)

-- a call that fails before it hands anything out
pub hands_none : {T E : Type 0} (took : T → Found → T → Bool → Type 0) (held : Tables → Type 0) (found : Tables → List Found) (n : ℕ) (a : T) (result : Result Bool E)
    → IsErr result → n < 2 ^ 64 → HandsOut took held found n n a a result
hands_none took held found n a (Ok all) wrong few = cc
hands_none took held found n a (Err e) wrong few = record { given = []; taken = refl; count = omega arith; whole = λ t h. (found t, tt, refl) }

-- ---- one selection

or-false : (b : Bool) → (b || false) ≡ b
or-false true = refl
or-false false = refl

one_of_one : (p q : Found → Bool) → ((f : Found) → p f ≡ q f) → (rows : List Found) → filter p rows ≡ filter q rows
one_of_one p q e [] = refl
one_of_one p q e (row ∷ rows) =
    ap (λ b. cond b (row ∷ filter p rows) (filter p rows)) (e row) ∙ ap (λ found. cond (q row) (row ∷ found) found) (one_of_one p q e rows)

-- what a single selection finds
pub found_by_one : (r : Route) (caller day : ℕ) (t : Tables) → found_by_any (r ∷ []) caller day t ≡ found_by r caller day t
found_by_one r caller day t =
    one_of_one (is_found_by_any (r ∷ []) caller day) (is_found r caller day) (λ f. or-false (is_found r caller day f)) (map (found_row t caller) t.files)

-- rows that are those found, in their order
pub in_order : (t : Tables) (given found : List Found) → given ≡ found → AreFound t given found
in_order t given found e = record { same = subst (λ xs. IsPermutation given xs) e (IsPermutation-refl given); order = λ _. e }
