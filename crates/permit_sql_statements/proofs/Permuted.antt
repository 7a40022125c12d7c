-- Rows in any order: a new row among them, and one that is replaced.
use Rattle.std.proofs.Common.{◌≡◌, ℕ, ℤ, pos, ◌+◌, ◌≤◌, length, map, eqb, slice_get, Some, None, arith, ◌&&◌, ◌||◌, cond, Bool, true, false, not, List, [], ◌∷◌}
use Rattle.std.proofs.Common.{◌++◌, filter, find, refl, sym, ap, ap₂, subst, ◌∙◌, Ordering, Less, Equal, Greater, is_eq, IsPermutation, true≢false, append-nil}
use Rattle.std.specs.List.{AllByRecursion, list_any}
use Rattle.std.specs.Ordering.{match_ordering}
use Rattle.std.proofs.lemmas.Bool.Decides.{nat_tests}
use Rattle.std.proofs.lemmas.List.Sorted.{IsPermutation-refl, IsPermutation-cons, IsPermutation-trans, IsPermutation-sym, IsPermutation-middle}
use Rattle.std.proofs.lemmas.List.Sorted.{length_permutation, IsPermutation-map}
use Rattle.sqlite_keyed.proofs.ListLemmas.{IsPermutation-filter, filter-map, IsPermutation-same, slice_get-filter}
use Rattle.sqlite.proofs.Callers.{one_permutation}
use Rattle.sqlite_value.specs.Order.{Row, value_cmp}
use Rattle.sqlite_value.proofs.OrderLemmas.{value_cmp-Int}
use Rattle.sqlite.specs.declared.types.Value.TheVariants.{Int}
use Rattle.sqlite_trees.specs.Tree.{rowid, put_row, without_rowid, has_rowid}
use Rattle.permit_sql_rows.specs.Rows.{int}

pub has_is : (a b : ℕ) → is_eq (value_cmp (int a) (int b)) ≡ eqb a b
has_is a b = rw value_cmp-Int (grind (arith, nat_tests))

-- ---- a new row

abbrev pub IsFreshIn : Row → List Row → Type 0
IsFreshIn new = AllByRecursion (λ r. is_eq (value_cmp (rowid r) (rowid new)) ≡ false)

pub put_fresh : (new : Row) (rows : List Row) → IsFreshIn new rows → IsPermutation (new ∷ rows) (put_row new rows)
put_fresh new [] fresh = IsPermutation-refl _
put_fresh new (r ∷ rs) fresh = go (value_cmp (rowid r) (rowid new)) fresh.0 (put_fresh new rs fresh.1)
  where
    go : (o : Ordering) → is_eq o ≡ false → IsPermutation (new ∷ rs) (put_row new rs) →
        IsPermutation (new ∷ r ∷ rs) (match_ordering o (r ∷ put_row new rs) (new ∷ rs) (new ∷ r ∷ rs))
    go Less apart more = IsPermutation-trans _ _ _ (IsPermutation-middle (new ∷ []) r rs) (IsPermutation-cons r _ _ more)
    go Equal apart more = absurd (true≢false apart)
    go Greater apart more = IsPermutation-refl _

-- what `Applies` says of one new row
pub fresh_rows : (new : Row) (rows : List Row) → list_any (λ r. is_eq (value_cmp (rowid r) (rowid new))) rows ≡ false → IsFreshIn new rows
fresh_rows new [] h = tt
fresh_rows new (r ∷ rs) h = go (is_eq (value_cmp (rowid r) (rowid new))) refl h (fresh_rows new rs)
  where
    go : (b : Bool) → is_eq (value_cmp (rowid r) (rowid new)) ≡ b → (b || list_any (λ r. is_eq (value_cmp (rowid r) (rowid new))) rs) ≡ false
        → (list_any (λ r. is_eq (value_cmp (rowid r) (rowid new))) rs ≡ false → IsFreshIn new rs) → IsFreshIn new (r ∷ rs)
    go true e none more = absurd (true≢false none)
    go false e none more = (e, more none)

pub not_taken : (b : Bool) → (not b && true) ≡ true → b ≡ false
not_taken true h = absurd (true≢false (sym h))
not_taken false h = refl

-- a row whose rowid is free is the only one with it
pub fresh_alone : (id : ℤ) (new : Row) (rows : List Row) → IsFreshIn new rows → ((i : ℤ) → length (filter (has_rowid i) rows) ≤ 1) → rowid new ≡ Int id →
    length (filter (has_rowid id) (new ∷ rows)) ≤ 1
fresh_alone id new rows fresh apart is = go (has_rowid id new) (none rows fresh)
  where
    none : (rs : List Row) → IsFreshIn new rs → length (filter (has_rowid id) rs) ≡ 0
    none [] free = refl
    none (r ∷ rs) free = rw (ap (λ v. is_eq (value_cmp (rowid r) v)) (sym is) ∙ free.0) (none rs free.1)

    go : (b : Bool) → length (filter (has_rowid id) rows) ≡ 0 → length (cond b (new ∷ filter (has_rowid id) rows) (filter (has_rowid id) rows)) ≤ 1
    go true h = omega (arith, h)
    go false h = omega (arith, h)

pub append_any : {A : Type 0} (xs : List A) (x : A) (ys : List A) → IsPermutation xs ys → IsPermutation (xs ++ x ∷ []) (x ∷ ys)
append_any xs x ys same =
    IsPermutation-trans _ _ _ (IsPermutation-middle xs x []) (IsPermutation-cons x _ _ (subst (λ l. IsPermutation l ys) (sym (append-nil xs)) same))

-- ---- lists of at most one value have one order

pub nil_permutation : {A : Type 0} (ys : List A) → IsPermutation [] ys → ys ≡ []
nil_permutation [] h = refl
nil_permutation (y ∷ ys) h = absurd (omega (arith, length_permutation _ _ h))

pub one_order : {A : Type 0} (xs ys : List A) → length xs ≤ 1 → IsPermutation xs ys → ys ≡ xs
one_order [] ys short h = nil_permutation ys h
one_order (x ∷ []) ys short h = one_permutation x ys h
one_order (x ∷ y ∷ xs) ys short h = absurd (omega (arith, short))

pub no_more : {A : Type 0} (p : A → Bool) (xs ys : List A) → IsPermutation xs ys → length (filter p xs) ≤ 1 → length (filter p ys) ≤ 1
no_more p xs ys same short = let e = length_permutation _ _ (IsPermutation-filter p xs ys same) in omega (arith, e, short)

-- ---- one row in place of another

-- what is left without a rowid has no row with it
fresh_left : (id : ℤ) (new : Row) (rows : List Row) → rowid new ≡ Int id → IsFreshIn new (without_rowid id rows)
fresh_left id new [] is = tt
fresh_left id new (r ∷ rs) is = go (has_rowid id r) refl (fresh_left id new rs is)
  where
    go : (b : Bool) → has_rowid id r ≡ b → IsFreshIn new (without_rowid id rs) → IsFreshIn new (cond (not b) (r ∷ without_rowid id rs) (without_rowid id rs))
    go true same more = more
    go false apart more = (ap (λ v. is_eq (value_cmp (rowid r) v)) is ∙ apart, more)

pub alone : (id : ℤ) (r : Row) → has_rowid id r ≡ true → without_rowid id (r ∷ []) ≡ []
alone id r is = rw is refl

module _ {X : Type 0} (test : X → Bool) (f : X → X) where
  abbrev rest : List X → List X
  rest = filter (λ x. not (test x))

  map_none : (xs : List X) → AllByRecursion (λ x. test x ≡ false → f x ≡ x) xs → filter test xs ≡ [] → map f xs ≡ rest xs
  map_none [] stays none = refl
  map_none (x ∷ xs) stays none = go (test x) refl none (map_none xs stays.1)
    where
      go : (b : Bool) → test x ≡ b → cond b (x ∷ filter test xs) (filter test xs) ≡ [] → (filter test xs ≡ [] → map f xs ≡ rest xs) →
          f x ∷ map f xs ≡ cond (not b) (x ∷ rest xs) (rest xs)
      go true is none more = absurd cc
      go false is none more = ap₂ ◌∷◌ (stays.0 is) (more none)

  -- where one value passes the test, it is changed, and no other
  pub map_one : (old : X) (xs : List X) → AllByRecursion (λ x. test x ≡ false → f x ≡ x) xs → filter test xs ≡ old ∷ [] →
      IsPermutation (map f xs) (f old ∷ rest xs)
  map_one old [] stays one = absurd cc
  map_one old (x ∷ xs) stays one = go (test x) refl one (map_one old xs stays.1)
    where
      head : {A : Type 0} {a b : A} {p q : List A} → a ∷ p ≡ b ∷ q → a ≡ b
      head e = cc

      tail : {A : Type 0} {a b : A} {p q : List A} → a ∷ p ≡ b ∷ q → p ≡ q
      tail e = cc

      go : (b : Bool) → test x ≡ b → cond b (x ∷ filter test xs) (filter test xs) ≡ old ∷ [] →
          (filter test xs ≡ old ∷ [] → IsPermutation (map f xs) (f old ∷ rest xs))
          → IsPermutation (f x ∷ map f xs) (f old ∷ cond (not b) (x ∷ rest xs) (rest xs))
      go true is one more = IsPermutation-same _ _ (ap₂ ◌∷◌ (ap f (head one)) (map_none xs stays.1 (tail one)))
      go false is one more = IsPermutation-trans _ _ _ (IsPermutation-cons (f x) _ _ (more one))
          (subst (λ y. IsPermutation (f x ∷ f old ∷ rest xs) (f old ∷ y ∷ rest xs)) (stays.0 is) (IsPermutation-middle (f x ∷ []) (f old) (rest xs)))

-- An UPDATE of the one row with a rowid.
pub updates : (id : ℤ) (f : Row → Row) (old new : Row) (rows : List Row) → AllByRecursion (λ r. has_rowid id r ≡ false → f r ≡ r) rows →
    filter (has_rowid id) rows ≡ old ∷ [] → f old ≡ new → rowid new ≡ Int id
    → IsPermutation (map f rows) (put_row new (without_rowid id rows))
updates id f old new rows stays one is keyed =
    IsPermutation-trans _ _ _ (subst (λ r. IsPermutation (map f rows) (r ∷ without_rowid id rows)) is (map_one (has_rowid id) f old rows stays one))
    (put_fresh new (without_rowid id rows) (fresh_left id new rows keyed))

-- ---- a test that one value passes at most

one_found : {X : Type 0} (xs : List X) (x : X) → slice_get xs 0 ≡ Some x → length xs ≤ 1 → xs ≡ x ∷ []
one_found [] x is short = absurd cc
one_found (y ∷ []) x is short = let e : y ≡ x = cc in ap (λ z. z ∷ []) e
one_found (y ∷ z ∷ xs) x is short = absurd (omega (arith, short))

pub only_found : {X : Type 0} (test : X → Bool) (xs : List X) (x : X) → find test xs ≡ Some x → length (filter test xs) ≤ 1 → filter test xs ≡ x ∷ []
only_found test xs x is short = one_found (filter test xs) x (slice_get-filter test xs ∙ is) short

none_found : {X : Type 0} (xs : List X) → slice_get xs 0 ≡ None → xs ≡ []
none_found [] is = refl
none_found (y ∷ xs) is = absurd cc

pub not_found : {X : Type 0} (test : X → Bool) (xs : List X) → find test xs ≡ None → filter test xs ≡ []
not_found test xs is = none_found (filter test xs) (slice_get-filter test xs ∙ is)

-- a last value more
pub once_more : {X : Type 0} (test : X → Bool) (xs : List X) (x : X) → length (filter test xs) ≤ 1 → (test x ≡ true → filter test xs ≡ []) →
    length (filter test (xs ++ x ∷ [])) ≤ 1
once_more {X} test xs x short free = subst (λ n. n ≤ 1) (sym (counted xs)) (go (test x) refl)
  where
    counted : (ys : List X) → length (filter test (ys ++ x ∷ [])) ≡ length (filter test ys) + cond (test x) 1 0
    counted [] = one (test x)
      where
        one : (b : Bool) → length (cond b (x ∷ []) []) ≡ 0 + cond b 1 0
        one true = refl
        one false = refl
    counted (y ∷ ys) = go (test y) (counted ys)
      where
        go : (b : Bool) → length (filter test (ys ++ x ∷ [])) ≡ length (filter test ys) + cond (test x) 1 0
            → length (cond b (y ∷ filter test (ys ++ x ∷ [])) (filter test (ys ++ x ∷ [])))
            ≡ length (cond b (y ∷ filter test ys) (filter test ys)) + cond (test x) 1 0
        go true e = omega (arith, e)
        go false e = e

    go : (b : Bool) → test x ≡ b → length (filter test xs) + cond (test x) 1 0 ≤ 1
    go true is = rw is (let e = ap length (free is) in omega (arith, e))
    go false is = rw is (omega (arith, short))

-- ---- rows that are keyed by a number

module _ {X : Type 0} (key : X → ℕ) (enc : X → Row) (keyed : (x : X) → rowid (enc x) ≡ int (key x)) where
  has_key : (id : ℕ) (x : X) → has_rowid (pos id) (enc x) ≡ eqb (key x) id
  has_key id x = ap (λ v. is_eq (value_cmp v (int id))) (keyed x) ∙ has_is (key x) id

  fresh_none : (new : Row) (id : ℕ) (rows : List Row) → rowid new ≡ int id → IsFreshIn new rows → filter (has_rowid (pos id)) rows ≡ []
  fresh_none new id [] is free = refl
  fresh_none new id (r ∷ rs) is free = rw (ap (λ v. is_eq (value_cmp (rowid r) v)) (sym is) ∙ free.0) (fresh_none new id rs is free.1)

  -- a number whose row was fresh is new
  pub key_free : (x : X) (xs : List X) (tree : List Row) → IsFreshIn (enc x) tree → IsPermutation (map enc xs) tree → filter (λ y. eqb (key y) (key x)) xs ≡ []
  key_free x xs tree free kept =
      let none = fresh_none (enc x) (key x) tree (keyed x) free in
      let moved = IsPermutation-filter (has_rowid (pos (key x))) _ _ kept in
      let empty = nil_permutation _ (subst (λ l. IsPermutation l (filter (has_rowid (pos (key x))) (map enc xs))) none (IsPermutation-sym _ _ moved)) in
      unmapped (filter (λ y. eqb (key y) (key x)) xs) (sym (filter-map (has_rowid (pos (key x))) enc xs
      ∙ ap (map enc) (Rattle.sqlite_keyed.proofs.ListLemmas.filter_same _ _ (has_key (key x)) xs)) ∙ empty)
    where
      unmapped : (ys : List X) → map enc ys ≡ [] → ys ≡ []
      unmapped [] e = refl
      unmapped (y ∷ ys) e = absurd cc

  map-append : (xs ys : List X) → map enc (xs ++ ys) ≡ map enc xs ++ map enc ys
  map-append [] ys = refl
  map-append (x ∷ xs) ys = ap (λ l. enc x ∷ l) (map-append xs ys)

  -- a last value more, whose row is put among the others
  pub put_more : (x : X) (xs : List X) (tree : List Row) → IsFreshIn (enc x) tree → IsPermutation (map enc xs) tree →
      IsPermutation (map enc (xs ++ x ∷ [])) (put_row (enc x) tree)
  put_more x xs tree free kept =
      subst (λ l. IsPermutation l (put_row (enc x) tree)) (sym (map-append xs (x ∷ [])))
      (IsPermutation-trans _ _ _ (append_any (map enc xs) (enc x) tree kept) (put_fresh (enc x) tree free))

  -- the value with the number is changed, and its row is put in place of the old one
  pub put_changed : (id : ℕ) (f : X → X) (x : X) (xs : List X) (tree : List Row) → ((y : X) → eqb (key y) id ≡ false → f y ≡ y) → key (f x) ≡ id →
      filter (λ y. eqb (key y) id) xs ≡ x ∷ [] → IsPermutation (map enc xs) tree
      → IsPermutation (map enc (map f xs)) (put_row (enc (f x)) (without_rowid (pos id) tree))
  put_changed id f x xs tree stays same one kept =
      let gone = IsPermutation-filter (λ r. not (has_rowid (pos id) r)) _ _ kept in
      let left : filter (λ r. not (has_rowid (pos id) r)) (map enc xs) ≡ map enc (filter (λ y. not (eqb (key y) id)) xs) =
      filter-map (λ r. not (has_rowid (pos id) r)) enc xs ∙ ap (map enc)
      (Rattle.sqlite_keyed.proofs.ListLemmas.filter_same _ _ (λ y. ap not (has_key id y)) xs) in
      let changed = IsPermutation-map enc _ _ (map_one (λ y. eqb (key y) id) f x xs (all xs) one) in
      IsPermutation-trans _ _ _ changed
      (IsPermutation-trans _ _ _ (IsPermutation-cons (enc (f x)) _ _ (subst (λ l. IsPermutation l (without_rowid (pos id) tree)) left gone))
      (put_fresh (enc (f x)) (without_rowid (pos id) tree) (fresh_left (pos id) (enc (f x)) tree (keyed (f x) ∙ ap int same))))
    where
      all : (ys : List X) → AllByRecursion (λ y. eqb (key y) id ≡ false → f y ≡ y) ys
      all [] = tt
      all (y ∷ ys) = (stays y, all ys)
