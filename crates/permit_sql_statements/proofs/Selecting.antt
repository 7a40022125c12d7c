-- What the text of all files shows of the tables: the interests and the parcel of a file, and the order of the rows.
use Rattle.std.proofs.Common.{◌≡◌, ◌⊎◌, inl, inr, refl, sym, ap, ap₂, subst, ◌∙◌, ℕ, zero, suc, ◌<◌, ◌≤◌, Bool, true, false, cond, not, eqb, min, length, List}
use Rattle.std.proofs.Common.{[], ◌∷◌, ◌++◌, map, filter, find, drop, slice_get, Option, Some, None, arith, true≢false, IsPermutation, IsSorted, Less}
use Rattle.std.specs.Prelude.{◌&&◌}
use Rattle.std.specs.List.{flat_map, list_any, AllByRecursion}
use Rattle.std.proofs.lemmas.Bool.{cases_lt}
use Rattle.std.proofs.lemmas.Bool.Decides.{nat_tests}
use Rattle.std.proofs.lemmas.List.{length-map}
use Rattle.std.proofs.lemmas.List.Sorted.{IsPermutation-map, IsPermutation-trans, IsPermutation-sym, IsPermutation-refl}
use Rattle.std.proofs.lemmas.List.Sorted.{IsPermutation-cons, IsPermutation-middle, length_permutation, All-permutation}
use Rattle.std.proofs.lemmas.List.Elements.{recursion_from_All, All-from_recursion}
use Rattle.sqlite.specs.declared.types.Value.TheVariants.{Null}
use Rattle.sqlite_value.specs.Order.{Row, column, value_cmp}
use Rattle.sqlite_value.specs.declared.keys.Collation.TheVariants.{Binary}
use Rattle.sqlite_value.proofs.OrderLemmas.{value_cmp-Int}
use Rattle.sqlite_sql.specs.declared.ops.BinaryOp.TheVariants.{Compare}
use Rattle.sqlite_sql.specs.declared.ops.CompareOp.TheVariants.{Eq}
use Rattle.sqlite_sql.specs.Ops.{binary, is_true}
use Rattle.sqlite_sql.specs.Query.{Output, output_cmp, or_nulls}
use Rattle.sqlite_sql.proofs.QueryLemmas.{output_cmp_total}
use Rattle.sqlite_trees.specs.Tree.{IsAscending}
use Rattle.sqlite_keyed.proofs.ListLemmas.{IsPermutation-filter, map-map, filter-map, filter_same, none_counted, along_permutation, slice_get-filter}
use Rattle.sqlite_keyed.proofs.ListLemmas.{all_map, ascending-map, ascending_weaker}
use Rattle.sqlite_keyed.proofs.SortLemmas.{sorted_unique}
use Rattle.permit_model.specs.Parcels.{Parcel, Interest}
use Rattle.permit_model.specs.Tables.{Tables, FileRow}
use Rattle.permit_model.specs.Routes.{Found, found_row}
use Rattle.permit_store.specs.Handing.{AreFound, AreRising}
use Rattle.permit_sql_rows.specs.Kept.{IsNamed}
use Rattle.permit_sql_rows.specs.Rows.{int, flag, parcel_row, shown_interest, shown_found}
use Rattle.permit_sql_statements.proofs.Lookups.{eq_is, one_test}
use Rattle.permit_sql_statements.proofs.Permuted.{one_order}
use Rattle.permit_sql_statements.proofs.QueryTexts.{read_found_query}

-- ---- the interests of a caller in a parcel

module _ (parcel caller : ℕ) where
  -- the test of a row, and of the interest that it shows
  abbrev passes : Row → Bool
  passes r = is_true (binary (Compare Eq Binary) (column r 1) (int parcel)) && (is_true (binary (Compare Eq Binary) (column r 2) (int caller)) && true)

  abbrev test : Interest → Bool
  test i = eqb i.parcel parcel && eqb i.party caller

  cut : (r : Row) → passes r ≡ passes (Null ∷ drop 1 r)
  cut [] = refl
  cut (x ∷ r) = refl

  declared_is : (i : Interest) → passes (Null ∷ shown_interest i) ≡ test i
  declared_is i = ap₂ ◌&&◌ (eq_is i.parcel parcel) (one_test _ ∙ eq_is i.party caller)

  long_matches : {A : Type 0} (env : Row → A) (rows : List Row) → length (flat_map (λ r. cond (passes r) (env r ∷ []) []) rows) ≡ length (filter passes rows)
  long_matches env [] = refl
  long_matches env (r ∷ rows) = go (passes r) (long_matches env rows)
    where
      go : (b : Bool) → length (flat_map (λ r. cond (passes r) (env r ∷ []) []) rows) ≡ length (filter passes rows)
          → length (cond b (env r ∷ []) [] ++ flat_map (λ r. cond (passes r) (env r ∷ []) []) rows)
          ≡ length (cond b (r ∷ filter passes rows) (filter passes rows))
      go true e = ap suc e
      go false e = e

  at_most_one : (n : ℕ) (b : Bool) → eqb n 0 ≡ not b → int (min 1 n) ≡ flag b
  at_most_one zero true h = absurd cc
  at_most_one zero false h = refl
  at_most_one (suc n) true h = let one : min 1 (suc n) ≡ 1 = omega arith in ap int one
  at_most_one (suc n) false h = let other : eqb (suc n) 0 ≡ false = grind (arith, nat_tests) in absurd (true≢false (sym h ∙ other))

  -- one is counted where there is one
  pub counted_is : {A : Type 0} (env : Row → A) (interests : List Interest) (rows : List Row) → IsPermutation (map shown_interest interests) (map (drop 1) rows)
      → int (min 1 (length (flat_map (λ r. cond (passes r) (env r ∷ []) []) rows))) ≡ flag (list_any test interests)
  counted_is env interests rows same =
      let part : Row → Bool = λ s. passes (Null ∷ s) in
      let left : length (filter part (map (drop 1) rows)) ≡ length (filter passes rows) =
      ap length (filter-map part (drop 1) rows ∙ ap (map (drop 1)) (filter_same _ _ (λ r. sym (cut r)) rows)) ∙ length-map _ (drop 1) in
      let right : length (filter part (map shown_interest interests)) ≡ length (filter test interests) =
      ap length (filter-map part shown_interest interests ∙ ap (map shown_interest) (filter_same _ _ declared_is interests)) ∙ length-map _ shown_interest in
      let moved : length (filter part (map (drop 1) rows)) ≡ length (filter part (map shown_interest interests)) =
      length_permutation _ _ (IsPermutation-filter part _ _ same) in
      let many : length (flat_map (λ r. cond (passes r) (env r ∷ []) []) rows) ≡ length (filter test interests) = long_matches env rows ∙ sym left ∙ moved
      ∙ right in
      ap (λ n. int (min 1 n)) many ∙ at_most_one (length (filter test interests)) (list_any test interests) (none_counted test interests)

-- ---- the parcel of a file

-- the parcel's row beside the file's, or one with no column
abbrev pub beside_row : Option Parcel → Row
beside_row None = []
beside_row (Some p) = parcel_row p

abbrev is_parcel : ℕ → Row → Bool
is_parcel parcel r = is_true (binary (Compare Eq Binary) (column r 0) (int parcel)) && true

module _ (parcel : ℕ) (parcels : List Parcel) (rows : List Row) (same : IsPermutation (map parcel_row parcels) rows)
    (once : length (filter (λ p. eqb p.id parcel) parcels) ≤ 1) where
  -- the rows of the parcel's number
  its_rows : filter (is_parcel parcel) rows ≡ map parcel_row (filter (λ p. eqb p.id parcel) parcels)
  its_rows =
      let named : filter (is_parcel parcel) (map parcel_row parcels) ≡ map parcel_row (filter (λ p. eqb p.id parcel) parcels) =
      filter-map (is_parcel parcel) parcel_row parcels ∙ ap (map parcel_row) (filter_same _ _ (λ p. one_test _ ∙ eq_is p.id parcel) parcels) in
      one_order _ _ (omega (arith, once, length-map (filter (λ p. eqb p.id parcel) parcels) parcel_row))
      (subst (λ l. IsPermutation l (filter (is_parcel parcel) rows)) named (IsPermutation-filter (is_parcel parcel) _ _ same))

  one_row : (l : List Parcel) → length l ≤ 1 → or_nulls (map parcel_row l) ≡ beside_row (slice_get l 0) ∷ []
  one_row [] short = refl
  one_row (p ∷ []) short = refl
  one_row (p ∷ q ∷ l) short = absurd (omega (arith, short))

  -- its row, or one with no column
  pub parcel_found : or_nulls (filter (is_parcel parcel) rows) ≡ beside_row (find (λ p. eqb p.id parcel) parcels) ∷ []
  parcel_found = ap or_nulls its_rows ∙ one_row _ once ∙ ap (λ o. beside_row o ∷ []) (slice_get-filter (λ p. eqb p.id parcel) parcels)

-- ---- an order of what is made of some values is that of an order of the values

abbrev IsMade : {A B : Type 0} → (A → B) → List B → List B → Type 0
IsMade {A} f us vs = (xs : List A) → us ≡ map f xs → (zs : List A) × IsPermutation xs zs × (vs ≡ map f zs)

pub unmapped : {A B : Type 0} (f : A → B) (xs : List A) (ys : List B) → IsPermutation (map f xs) ys → (zs : List A) × IsPermutation xs zs × (ys ≡ map f zs)
unmapped {A} {B} f xs ys same = along_permutation (IsMade f) itself skip turn chain (map f xs) ys same xs refl
  where
    itself : (us : List B) → IsMade f us us
    itself us xs is = (xs, IsPermutation-refl _, is)

    skip : (u : B) (us vs : List B) → IsMade f us vs → IsMade f (u ∷ us) (u ∷ vs)
    skip u us vs more [] is = absurd cc
    skip u us vs more (x ∷ xs) is =
        let rest : us ≡ map f xs = cc in
        let first : u ≡ f x = cc in
        let it = more xs rest in
        (x ∷ it.0, IsPermutation-cons x _ _ it.1, ap₂ ◌∷◌ first it.2)

    turn : (u v : B) (us : List B) → IsMade f (u ∷ v ∷ us) (v ∷ u ∷ us)
    turn u v us [] is = absurd cc
    turn u v us (x ∷ []) is = absurd cc
    turn u v us (x ∷ y ∷ xs) is =
        let rest : us ≡ map f xs = cc in
        let first : u ≡ f x = cc in
        let second : v ≡ f y = cc in
        (y ∷ x ∷ xs, IsPermutation-middle (x ∷ []) y xs, ap₂ ◌∷◌ second (ap₂ ◌∷◌ first rest))

    chain : (us vs ws : List B) → IsMade f us vs → IsMade f vs ws → IsMade f us ws
    chain us vs ws one two xs is =
        let a = one xs is in
        let b = two a.0 a.2 in
        (b.0, IsPermutation-trans _ _ _ a.1 b.1, b.2)

-- ---- the whole answer

-- each is named, where there were so many files at the upgrade
abbrev pub AreNamed : Option ℕ → List Found → Type 0
AreNamed upgrade = AllByRecursion (λ g. IsNamed upgrade g.row.id g.row.state)

-- every file as it is found for the caller, in the order in which they are kept
abbrev pub all_found : Tables → ℕ → List Found
all_found t caller = map (found_row t caller) t.files

-- These rows show every file, in some order, and where the numbers of the tables' rows rise, in that order.
pub record ShowAll (t : Tables) (caller : ℕ) (rows : List Row) : Type 0 where
  pub given : List Found
  pub are : AreFound t given (all_found t caller)
  pub shown : rows ≡ map shown_found given
  pub named : AreNamed t.upgrade given

rising : (rows : List FileRow) → AreRising rows → IsAscending (λ a b. a.id < b.id) rows
rising [] up = tt
rising (row ∷ rows) up = (up.0, rising rows up.1)

all_above : (n : ℕ) (rows : List FileRow) → AllByRecursion (λ later. n < later.id) rows ⊎ ¬ AllByRecursion (λ later. n < later.id) rows
all_above n [] = inl tt
all_above n (row ∷ rows) = elim (cases_lt n row.id) [
  | inl low ↦ elim (all_above n rows) [ inl all ↦ inl (low, all) | inr none ↦ inr (λ h. none h.1) ]
  | inr high ↦ inr (λ h. let low = h.0 in absurd (omega (arith, low, high)))
]

-- the numbers rise or not
rises_or_not : (rows : List FileRow) → AreRising rows ⊎ ¬ AreRising rows
rises_or_not [] = inl tt
rises_or_not (row ∷ rows) = elim (all_above row.id rows) [
  | inl all ↦ elim (rises_or_not rows) [ inl up ↦ inl (all, up) | inr none ↦ inr (λ h. none h.1) ]
  | inr none ↦ inr (λ h. none h.0)
]

module _ (t : Tables) (caller : ℕ) where
  -- a row by its number
  abbrev pub out : FileRow → Output
  out f = (int f.id ∷ [], shown_found (found_row t caller f))

  rise : (a b : FileRow) → a.id < b.id → output_cmp read_found_query (out a) (out b) ≡ Less
  rise a b low =
      let less : value_cmp (int a.id) (int b.id) ≡ Less = value_cmp-Int _ _ ∙ grind (arith, nat_tests) in
      rw less refl

  plain : (fs : List FileRow) → map (λ (o : Output). o.1) (map out fs) ≡ map shown_found (map (found_row t caller) fs)
  plain fs = map-map (λ (o : Output). o.1) out fs ∙ sym (map-map shown_found (found_row t caller) fs)

  names : (fs : List FileRow) → AllByRecursion (λ f. IsNamed t.upgrade f.id f.state) fs → AreNamed t.upgrade (map (found_row t caller) fs)
  names fs named = all_map (λ g. IsNamed t.upgrade g.row.id g.row.state) (found_row t caller) fs named

  -- rows in the order of their numbers
  pub shows_all : AllByRecursion (λ f. IsNamed t.upgrade f.id f.state) t.files → (ordered : List Output) (rows : List Row) →
      IsPermutation (map out t.files) ordered → IsSorted (output_cmp read_found_query) ordered → rows ≡ map (λ (o : Output). o.1) ordered →
      ShowAll t caller rows
  shows_all named ordered rows same sorted shown = elim (rises_or_not t.files) [
    | inl up ↦ in_order up
    | inr not_up ↦ in_some_order not_up
  ]
    where
      in_order : AreRising t.files → ShowAll t caller rows
      in_order up =
          let strict = ascending-map (λ a b. output_cmp read_found_query a b ≡ Less) out _
          (ascending_weaker _ _ (λ a b l. rise a b l) _ (rising t.files up)) in record {
            given = all_found t caller;
            are = record { same = IsPermutation-refl _; order = λ _. refl };
            shown = shown ∙ ap (map (λ (o : Output). o.1)) (sorted_unique (output_cmp read_found_query) (output_cmp_total read_found_query)
                (map out t.files) ordered strict same sorted) ∙ plain t.files;
            named = names t.files named;
          }

      in_some_order : ¬ AreRising t.files → ShowAll t caller rows
      in_some_order not_up =
          let it = unmapped out t.files ordered same in record {
            given = map (found_row t caller) it.0;
            are = record { same = IsPermutation-map (found_row t caller) _ _ (IsPermutation-sym _ _ it.1); order = λ up. absurd (not_up up) };
            shown = shown ∙ ap (map (λ (o : Output). o.1)) it.2 ∙ plain it.0;
            named = names it.0 (recursion_from_All (λ f. IsNamed t.upgrade f.id f.state) it.0
                (All-permutation (λ f. IsNamed t.upgrade f.id f.state) t.files it.0 it.1
                (All-from_recursion (λ f. IsNamed t.upgrade f.id f.state) t.files named)));
          }
