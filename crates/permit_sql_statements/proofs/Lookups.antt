-- What a query over one table shows, with no group, no DISTINCT and no LIMIT.
use Rattle.std.proofs.Common.{◌≡◌, ℕ, suc, pos, negsuc, ◌≤◌, Bool, true, false, cond, eqb, List, [], ◌∷◌, ◌++◌, map, filter, length, Some, None, refl, sym, ap}
use Rattle.std.proofs.Common.{ap₂, subst, ◌∙◌, arith, IsPermutation, IsSorted, is_eq}
use Rattle.std.specs.Prelude.{◌&&◌, bytes_eq}
use Rattle.std.specs.List.{flat_map, list_all}
use Rattle.std.proofs.lemmas.Bool.Decides.{nat_tests}
use Rattle.std.proofs.lemmas.Map.Text.{is_eq-slice_cmp}
use Rattle.std.proofs.lemmas.List.Sorted.{IsPermutation-map, IsPermutation-trans}
use Rattle.sqlite.specs.declared.types.Value.TheVariants.{Int, Text}
use Rattle.sqlite_value.specs.Order.{Row}
use Rattle.sqlite_value.proofs.OrderLemmas.{value_cmp-Int, value_cmp-Text}
use Rattle.sqlite_value.specs.declared.keys.Key.{Key}
use Rattle.sqlite_value.specs.declared.keys.Collation.TheVariants.{Binary}
use Rattle.sqlite_sql.specs.declared.ops.BinaryOp.TheVariants.{Compare}
use Rattle.sqlite_sql.specs.declared.ops.CompareOp.TheVariants.{Eq}
use Rattle.sqlite_sql.specs.Ops.{binary, is_true, from_truth}
use Rattle.sqlite_sql.specs.Term.{Term, lit, op2, eval_all, holds}
use Rattle.sqlite_sql.specs.Query.{Query, Join, inner, end, IsAnswer, Output, output, output_cmp, matches}
use Rattle.sqlite_trees.specs.Tree.{Trees}
use Rattle.sqlite_keyed.proofs.ListLemmas.{IsPermutation-flat_map, map-flat_map, flat_map_same_on, map-map}
use Rattle.permit_sql_rows.specs.Rows.{int}
use Rattle.permit_sql_statements.proofs.Permuted.{one_order}

abbrev pub plain_query : Join → List Term → List Term → List (Term × Key) → Query
plain_query from filter project order = record {
  from = from;
  filter = filter;
  group = None;
  project = project;
  distinct = false;
  collations = [];
  order = order;
  limit = lit (Int (negsuc 0));
  offset = lit (Int (pos 0));
}

abbrev pub equals : Term → Term → Term
equals a b = op2 (Compare Eq Binary) a b

-- ---- the test of two values

pub eq_is : (a b : ℕ) → is_true (binary (Compare Eq Binary) (int a) (int b)) ≡ eqb a b
unfolding binary
eq_is a b = rw value_cmp-Int (grind (arith, nat_tests))

truth_of : (b : Bool) → is_true (from_truth (Some b)) ≡ b
truth_of true = refl
truth_of false = refl

pub text_is : (a b : List ℕ) → is_true (binary (Compare Eq Binary) (Text a) (Text b)) ≡ bytes_eq a b
unfolding binary
text_is a b = truth_of _ ∙ ap is_eq (value_cmp-Text a b) ∙ is_eq-slice_cmp a b

-- ---- the answer

module _ (from : Join) (filter project : List Term) (order : List (Term × Key)) (db : Trees) (params : Row) where
  -- the rows are what is shown of the matches, in an order that ORDER BY allows
  pub answers : (rows : List Row) → IsAnswer (plain_query from filter project order) db params rows
      → (ordered : List Output) × IsPermutation (map (output (plain_query from filter project order)) (matches db filter from (params ∷ []))) ordered
      × IsSorted (output_cmp (plain_query from filter project order)) ordered × (rows ≡ map (λ (o : Output). o.1) ordered)
  answers rows a =
      let q = plain_query from filter project order in
      let kept : a.kept ≡ map (output q) (matches db filter from (params ∷ [])) = a.distinct ∙ ap (map (output q)) a.grouped in
      (a.ordered, subst (λ k. IsPermutation k a.ordered) kept a.same, a.sorted, a.shown)

-- what a query puts out of a row, where the row meets the tests
abbrev pub put_out : Query → Row → Row → List Output
put_out q params r = cond (list_all (holds (params ∷ r ∷ [])) q.filter) (output q (params ∷ r ∷ []) ∷ []) []

-- the same of each row of the tree
pub spread : (q : Query) (params : Row) (rows : List Row)
    → map (output q) (flat_map (λ r. cond (list_all (holds (params ∷ r ∷ [])) q.filter) ((params ∷ r ∷ []) ∷ []) []) rows) ≡ flat_map (put_out q params) rows
spread q params rows = map-flat_map (output q) (λ r. cond (list_all (holds (params ∷ r ∷ [])) q.filter) ((params ∷ r ∷ []) ∷ []) []) rows
    ∙ flat_map_same_on _ _ (λ r. go r (list_all (holds (params ∷ r ∷ [])) q.filter)) rows
  where
    go : (r : Row) (b : Bool) → map (output q) (cond b ((params ∷ r ∷ []) ∷ []) []) ≡ cond b (output q (params ∷ r ∷ []) ∷ []) []
    go r true = refl
    go r false = refl

-- what is put out of the values that pass a test
pub put_all_out : {X : Type 0} (g : Row → List Output) (enc : X → Row) (test : X → Bool) (out : X → Output) →
    ((x : X) → g (enc x) ≡ cond (test x) (out x ∷ []) []) → (xs : List X) → flat_map g (map enc xs) ≡ map out (filter test xs)
put_all_out g enc test out is [] = refl
put_all_out g enc test out is (x ∷ xs) = ap₂ ◌++◌ (is x) (put_all_out g enc test out is xs) ∙ go (test x)
  where
    go : (b : Bool) → cond b (out x ∷ []) [] ++ map out (filter test xs) ≡ map out (cond b (x ∷ filter test xs) (filter test xs))
    go true = refl
    go false = refl

-- the test that a row's part meets says what is put out of it
pub put_out_is : (q : Query) (params r : Row) (b : Bool) (o : Output) → list_all (holds (params ∷ r ∷ [])) q.filter ≡ b → output q (params ∷ r ∷ []) ≡ o →
    put_out q params r ≡ cond b (o ∷ []) []
put_out_is q params r b o e p = ap (λ t. cond t (output q (params ∷ r ∷ []) ∷ []) []) e ∙ ap (λ x. cond b (x ∷ []) []) p

-- a look-up by one test, by two tests
pub one_test : (b : Bool) → (b && true) ≡ b
one_test true = refl
one_test false = refl

module _ {X : Type 0} (enc : X → Row) (shown : X → Row) (tree : ℕ) (filter project : List Term) (db : Trees) (params : Row) (xs : List X) (test : X → Bool)
    (tests : (x : X) → list_all (holds (params ∷ enc x ∷ [])) filter ≡ test x) (shows : (x : X) → eval_all project (params ∷ enc x ∷ []) ≡ shown x) where
  abbrev by_test : Query
  by_test = plain_query (inner tree end) filter project []

  -- whole rows: the answer is what is shown of those that pass the test, in any order
  pub finds : IsPermutation (map enc xs) (db tree) → (rows : List Row) → IsAnswer by_test db params rows →
      IsPermutation (map shown (Rattle.std.specs.Prelude.filter test xs)) rows
  finds kept rows a =
      let got = answers (inner tree end) filter project [] db params rows a in
      let out : X → Output = λ x. output by_test (params ∷ enc x ∷ []) in
      let there = subst (λ l. IsPermutation l (flat_map (put_out by_test params) (db tree)))
      (put_all_out (put_out by_test params) enc test out (λ x. put_out_is by_test params (enc x) (test x) (out x) (tests x) refl) xs)
      (IsPermutation-flat_map (put_out by_test params) _ _ kept) in
      let same = IsPermutation-trans _ _ _ there (subst (λ l. IsPermutation l got.0) (spread by_test params (db tree)) got.1) in
      let seen = IsPermutation-map (λ (o : Output). o.1) _ _ same in
      let plain : map (λ (o : Output). o.1) (map out (Rattle.std.specs.Prelude.filter test xs)) ≡ map shown (Rattle.std.specs.Prelude.filter test xs) =
      map-map (λ (o : Output). o.1) out _ ∙ Rattle.sqlite_keyed.proofs.ListLemmas.map_same (λ x. (out x).1) shown shows _ in
      subst (IsPermutation (map shown (Rattle.std.specs.Prelude.filter test xs))) (sym got.3)
      (subst (λ l. IsPermutation l (map (λ (o : Output). o.1) got.0)) plain seen)

  -- where at most one passes, there is no order to speak of
  pub finds_one : IsPermutation (map enc xs) (db tree) → length (Rattle.std.specs.Prelude.filter test xs) ≤ 1 → (rows : List Row) →
      IsAnswer by_test db params rows → rows ≡ map shown (Rattle.std.specs.Prelude.filter test xs)
  finds_one kept short rows a = one_order _ rows (omega (arith, short, long shown (Rattle.std.specs.Prelude.filter test xs))) (finds kept rows a)
    where
      long : {A B : Type 0} (f : A → B) (ys : List A) → length (map f ys) ≡ length ys
      long f [] = refl
      long f (y ∷ ys) = ap suc (long f ys)
