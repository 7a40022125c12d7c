-- A notice that is closed: one row of the papers is replaced.
use Rattle.std.proofs.Common.{◌≡◌, ℕ, ℤ, suc, ◌≤◌, ◌<◌, Bool, true, false, cond, eqb, List, [], ◌∷◌, map, filter, drop, length, Ok, refl, sym, ap, ap₂, subst}
use Rattle.std.proofs.Common.{◌∙◌, arith, is_eq, true≢false, IsPermutation, Ordering, Less, Equal, Greater}
use Rattle.std.specs.Prelude.{◌&&◌, ◌||◌, not, if◌then◌else◌, Some}
use Rattle.std.specs.List.{AllByRecursion, list_any, list_all}
use Rattle.std.proofs.lemmas.Bool.Decides.{nat_tests}
use Rattle.std.proofs.lemmas.List.Sorted.{IsPermutation-map, IsPermutation-trans}
use Rattle.std.proofs.lemmas.Map.Lookups.{exact_signed}
use Rattle.sqlite.specs.declared.types.Value.{Value}
use Rattle.sqlite.specs.declared.types.Value.TheVariants.{Null, Int, Real, Text, Blob}
use Rattle.sqlite_value.specs.Order.{Row, value_cmp}
use Rattle.sqlite_value.proofs.OrderLemmas.{value_cmp-Int}
use Rattle.sqlite_trees.specs.Tree.{IsAscending, rowid, put_row, without_rowid, has_rowid}
use Rattle.sqlite_trees.specs.View.{is_int}
use Rattle.sqlite_sql.specs.declared.ops.BinaryOp.TheVariants.{Compare}
use Rattle.sqlite_sql.specs.declared.ops.CompareOp.TheVariants.{Eq, Ne}
use Rattle.sqlite_sql.specs.Ops.{binary, is_true, is_null, from_truth, test}
use Rattle.sqlite_sql.specs.Term.{eval_all, holds}
use Rattle.sqlite_sql.specs.Program.{overlay}
use Rattle.sqlite_value.specs.declared.keys.Collation.TheVariants.{Binary}
use Rattle.sqlite_value.specs.Keys.{plain, first_key}
use Rattle.sqlite_schema.specs.declared.schema.Kind.TheVariants.{Integer}
use Rattle.sqlite_schema.specs.declared.schema.Constraint.TheVariants.{Unique}
use Rattle.sqlite_schema.specs.Rules.{passes, agree, differ}
use Rattle.sqlite_rules.specs.Cast.{cast, cast_all, cast_row}
use Rattle.sqlite_rules.specs.Edit.{id_in}
use Rattle.sqlite_rules.proofs.TableLemmas.{int_is}
use Rattle.sqlite_keyed.proofs.ListLemmas.{filter-map, filter_same, map-map, map_same, all_kept, all_weaker, IsPermutation-filter, IsPermutation-same}
use Rattle.sqlite.specs.State.{State, Executes}
use Rattle.permit_model.specs.Tables.{Paper, Tables}
use Rattle.permit_store.specs.Changes.{closed_by}
use Rattle.permit_sql_rows.specs.Schema.{schema_in, paper_table}
use Rattle.permit_sql_rows.specs.Rows.{int, shown_paper}
use Rattle.permit_sql_rows.specs.Kept.{Keeps}
use Rattle.permit_sql_statements.specs.declared.texts.TheConstants.{CLOSE_NOTICE}
use Rattle.permit_sql_statements.proofs.Permuted.{IsFreshIn, put_fresh, no_more, one_order, map_one}
use Rattle.permit_sql_statements.proofs.Lookups.{one_test, eq_is, finds_one}
use Rattle.permit_sql_statements.proofs.WriteTexts.{close_notice_query, close_notice_is, close_notice_plain}
use Rattle.permit_sql_statements.proofs.Effects.{cast_int, cast_null, cast_flag, Leaves, Sets, sets}
use Rattle.permit_sql_statements.proofs.Keeping.{Apart, second_after, keeps_papers, keyed_closed}

-- ---- lists

head : {A : Type 0} {a b : A} {p q : List A} → a ∷ p ≡ b ∷ q → a ≡ b
head e = cc

tail : {A : Type 0} {a b : A} {p q : List A} → a ∷ p ≡ b ∷ q → p ≡ q
tail e = cc

or_left : (a b : Bool) → (a || b) ≡ false → a ≡ false
or_left true b e = e
or_left false b e = refl

or_right : (a b : Bool) → (a || b) ≡ false → b ≡ false
or_right true b e = absurd (true≢false e)
or_right false b e = e

long : {A B : Type 0} (f : A → B) (xs : List A) → length (map f xs) ≡ length xs
long f [] = refl
long f (x ∷ xs) = ap suc (long f xs)

map_id : {A : Type 0} (xs : List A) → map (λ x. x) xs ≡ xs
map_id [] = refl
map_id (x ∷ xs) = ap (λ l. x ∷ l) (map_id xs)

empty : {A : Type 0} (xs : List A) → length xs ≤ 0 → xs ≡ []
empty [] short = refl
empty (x ∷ xs) short = absurd (omega (arith, short))

-- what is kept passes
passes_first : {X : Type 0} (p : X → Bool) (xs : List X) (x : X) (more : List X) → filter p xs ≡ x ∷ more → p x ≡ true
passes_first p [] x more e = absurd cc
passes_first {X} p (y ∷ ys) x more e = go (p y) refl e (passes_first p ys x more)
  where
    go : (b : Bool) → p y ≡ b → cond b (y ∷ filter p ys) (filter p ys) ≡ x ∷ more → (filter p ys ≡ x ∷ more → p x ≡ true) → p x ≡ true
    go true is e rest = ap p (sym (head e)) ∙ is
    go false is e rest = rest e

-- two tests that one value passes, and no other
same_one : {X : Type 0} (p q : X → Bool) (r : X) (xs : List X) → filter p xs ≡ r ∷ [] → q r ≡ true → length (filter q xs) ≤ 1 → filter q xs ≡ r ∷ []
same_one p q r [] e passed short = absurd cc
same_one {X} p q r (y ∷ ys) e passed short = go (p y) (q y) refl e short (same_one p q r ys)
  where
    go : (b c : Bool) → q y ≡ c → cond b (y ∷ filter p ys) (filter p ys) ≡ r ∷ [] → length (cond c (y ∷ filter q ys) (filter q ys)) ≤ 1
        → (filter p ys ≡ r ∷ [] → q r ≡ true → length (filter q ys) ≤ 1 → filter q ys ≡ r ∷ []) → cond c (y ∷ filter q ys) (filter q ys) ≡ r ∷ []
    go true true is e short more = ap₂ ◌∷◌ (head e) (empty (filter q ys) (omega (arith, short)))
    go true false is e short more = absurd (true≢false (sym passed ∙ ap q (sym (head e)) ∙ is))
    go false true is e short more = absurd (omega (arith, short, ap length (more e passed (omega (arith, short)))))
    go false false is e short more = more e passed short

fewer : {X : Type 0} (p q : X → Bool) (xs : List X) → length (filter p (filter q xs)) ≤ length (filter p xs)
fewer p q [] = omega arith
fewer {X} p q (y ∷ ys) = go (q y) (p y) refl (fewer p q ys)
  where
    go : (b c : Bool) → p y ≡ c → length (filter p (filter q ys)) ≤ length (filter p ys) →
        length (filter p (cond b (y ∷ filter q ys) (filter q ys))) ≤ length (cond c (y ∷ filter p ys) (filter p ys))
    go true true is low = rw is (omega (arith, low))
    go true false is low = rw is low
    go false true is low = omega (arith, low)
    go false false is low = low

-- where no value that is kept passes, the one that would be kept does not
any_left : {X : Type 0} (f p t : X → Bool) (r : X) (xs : List X) → filter t xs ≡ r ∷ [] → p r ≡ true → list_any f (filter p xs) ≡ false → f r ≡ false
any_left f p t r [] e passed none = absurd cc
any_left {X} f p t r (y ∷ ys) e passed none = go (t y) (p y) refl e none (any_left f p t r ys)
  where
    go : (b c : Bool) → p y ≡ c → cond b (y ∷ filter t ys) (filter t ys) ≡ r ∷ [] → list_any f (cond c (y ∷ filter p ys) (filter p ys)) ≡ false
        → (filter t ys ≡ r ∷ [] → p r ≡ true → list_any f (filter p ys) ≡ false → f r ≡ false) → f r ≡ false
    go true true is e none more = ap f (sym (head e)) ∙ or_left (f y) _ none
    go true false is e none more = absurd (true≢false (sym passed ∙ ap p (sym (head e)) ∙ is))
    go false true is e none more = more e passed (or_right (f y) _ none)
    go false false is e none more = more e passed none

-- ---- a row that is put among the others

all_put : (P : Row → Type 0) (new : Row) (rows : List Row) → AllByRecursion P (put_row new rows) → P new
all_put P new [] all = all.0
all_put P new (r ∷ rs) all = go (value_cmp (rowid r) (rowid new)) all (all_put P new rs)
  where
    go : (o : Ordering) → AllByRecursion P (Rattle.std.specs.Ordering.match_ordering o (r ∷ put_row new rs) (new ∷ rs) (new ∷ r ∷ rs)) →
        (AllByRecursion P (put_row new rs) → P new) → P new
    go Less all more = more all.1
    go Equal all more = all.0
    go Greater all more = all.0

any_put : (f : Row → Bool) (new : Row) (rows : List Row) → IsFreshIn new rows → list_any f (put_row new rows) ≡ false → list_any f rows ≡ false
any_put f new [] fresh none = refl
any_put f new (r ∷ rs) fresh none = go (value_cmp (rowid r) (rowid new)) fresh.0 none (any_put f new rs fresh.1)
  where
    go : (o : Ordering) → is_eq o ≡ false → list_any f (Rattle.std.specs.Ordering.match_ordering o (r ∷ put_row new rs) (new ∷ rs) (new ∷ r ∷ rs)) ≡ false
        → (list_any f (put_row new rs) ≡ false → list_any f rs ≡ false) → (f r || list_any f rs) ≡ false
    go Less apart none more = ap₂ ◌||◌ (or_left (f r) _ none) (more (or_right (f r) _ none))
    go Equal apart none more = absurd (true≢false apart)
    go Greater apart none more = or_right (f new) _ none

equal_is : (o : Ordering) → is_eq o ≡ true → o ≡ Equal
equal_is Less e = absurd (true≢false (sym e))
equal_is Equal e = refl
equal_is Greater e = absurd (true≢false (sym e))

-- a row whose rowid was free leaves each rowid to one row
pub apart_put : (n : ℤ) (rest : Row) (rows : List Row) → IsFreshIn (Int n ∷ rest) rows → Apart rows → Apart (put_row (Int n ∷ rest) rows)
apart_put n rest rows fresh apart id = no_more (has_rowid id) ((Int n ∷ rest) ∷ rows) (put_row (Int n ∷ rest) rows) (put_fresh (Int n ∷ rest) rows fresh)
    (two (has_rowid id (Int n ∷ rest)) refl)
  where
    none : (rs : List Row) → IsFreshIn (Int n ∷ rest) rs → length (filter (has_rowid n) rs) ≡ 0
    none [] free = refl
    none (r ∷ rs) free = rw free.0 (none rs free.1)

    two : (b : Bool) → has_rowid id (Int n ∷ rest) ≡ b → length (cond b ((Int n ∷ rest) ∷ filter (has_rowid id) rows) (filter (has_rowid id) rows)) ≤ 1
    two true is =
        let same : n ≡ id = exact_signed n id (equal_is _ (ap is_eq (sym (value_cmp-Int n id)) ∙ is)) in
        let none_here : length (filter (has_rowid id) rows) ≡ 0 = subst (λ i. length (filter (has_rowid i) rows) ≡ 0) same (none rows fresh) in
        omega (arith, none_here)
    two false is = apart id

-- ---- the test of a key, and of two rowids

differs : (a b : Value) → is_null a ≡ false → is_null b ≡ false → is_eq (value_cmp a b) ≡ false → differ a b ≡ true
unfolding binary
differs a b not_a not_b apart = go (is_null a) (is_null b) (value_cmp a b) not_a not_b apart
  where
    go : (x y : Bool) (o : Ordering) → x ≡ false → y ≡ false → is_eq o ≡ false → is_true (if x || y then Null else from_truth (Some (test Ne o))) ≡ true
    go true y o p q apart = absurd (true≢false p)
    go false true o p q apart = absurd (true≢false q)
    go false false Less p q apart = refl
    go false false Equal p q apart = absurd (true≢false apart)
    go false false Greater p q apart = refl

stored_not_null : (v : Value) → is_int (cast Integer v) ≡ true → is_null v ≡ false
stored_not_null Null h = absurd (true≢false (sym h ∙ ap is_int cast_null))
stored_not_null (Int n) h = refl
stored_not_null (Real x) h = refl
stored_not_null (Text t) h = refl
stored_not_null (Blob b) h = refl

int_not_null : (v : Value) → is_int v ≡ true → is_null v ≡ false
int_not_null Null h = absurd (true≢false (sym h))
int_not_null (Int n) h = refl
int_not_null (Real x) h = refl
int_not_null (Text t) h = refl
int_not_null (Blob b) h = refl

none_left : (a b : Bool) → (not a && b) ≡ true → a ≡ false
none_left true b e = absurd (true≢false (sym e))
none_left false b e = refl

and_first : (a : Bool) → (a && true) ≡ true → a ≡ true
and_first true e = refl
and_first false e = absurd (true≢false (sym e))

same_key : (n : ℕ) → is_true (binary (Compare Eq Binary) (int n) (int n)) ≡ true
same_key n = let same : eqb n n ≡ true = grind (arith, nat_tests) in eq_is n n ∙ same

agrees : (v w : Value) (p : Paper) → agree plain (1 ∷ 2 ∷ []) (v ∷ shown_paper p) (1 ∷ 2 ∷ []) (w ∷ shown_paper (record p { is_open = false })) ≡ true
unfolding first_key
agrees v w p = ap₂ ◌&&◌ (same_key p.file) (one_test _ ∙ same_key p.number)

cast_paper_at : (v : Value) (p : Paper) → cast_row paper_table (v ∷ shown_paper p) ≡ cast Integer v ∷ shown_paper p
cast_paper_at v p = let same : cast_all paper_table.columns (shown_paper p) ≡ shown_paper p = simp (cast_int, cast_flag) in ap (λ l. cast Integer v ∷ l) same

-- ---- the rows of a file and a number

module _ (file number : ℕ) where
  abbrev key : Row
  key = int file ∷ int number ∷ []

  abbrev hits : Row → Bool
  hits r = list_all (holds (key ∷ r ∷ [])) close_notice_query.filter

  -- the rowid, and the row with the notice closed
  abbrev shows : Row → Row
  shows r = eval_all close_notice_query.project (key ∷ r ∷ [])

  abbrev closes : Row → Row
  closes r = cond (hits r) (drop 1 (shows r)) r

  -- the same of the columns, of which none is the rowid
  abbrev closes_columns : Row → Row
  closes_columns c = cond (hits (Null ∷ c)) (drop 2 (shows (Null ∷ c))) c

  abbrev is_it : Paper → Bool
  is_it p = eqb p.file file && eqb p.number number

  cut_hits : (r : Row) → hits r ≡ hits (Null ∷ drop 1 r)
  cut_hits [] = refl
  cut_hits (v ∷ c) = refl

  cut_closes : (r : Row) → drop 1 (closes r) ≡ closes_columns (drop 1 r)
  cut_closes r = go r (hits r) ∙ ap (λ b. cond b (drop 2 (shows (Null ∷ drop 1 r))) (drop 1 r)) (cut_hits r)
    where
      go : (r : Row) (b : Bool) → drop 1 (cond b (drop 1 (shows r)) r) ≡ cond b (drop 2 (shows (Null ∷ drop 1 r))) (drop 1 r)
      go [] true = refl
      go [] false = refl
      go (v ∷ c) true = refl
      go (v ∷ c) false = refl

  hits_paper : (p : Paper) → hits (Null ∷ shown_paper p) ≡ is_it p
  hits_paper p = ap₂ ◌&&◌ (eq_is p.file file) (one_test _ ∙ eq_is p.number number)

  closes_paper : (p : Paper) → closes_columns (shown_paper p) ≡ shown_paper (closed_by file number p)
  closes_paper p = ap (λ b. cond b (drop 2 (shows (Null ∷ shown_paper p))) (shown_paper p)) (hits_paper p) ∙ go (is_it p)
    where
      go : (b : Bool) → cond b (drop 2 (shows (Null ∷ shown_paper p))) (shown_paper p) ≡ shown_paper (cond b (record p { is_open = false }) p)
      go true = refl
      go false = refl

  closed_rows : (papers : List Paper) (rows : List Row) → IsPermutation (map shown_paper papers) (map (drop 1) rows) →
      IsPermutation (map shown_paper (map (closed_by file number) papers)) (map (drop 1) (map closes rows))
  closed_rows papers rows kept =
      let left : map closes_columns (map shown_paper papers) ≡ map shown_paper (map (closed_by file number) papers) =
      map-map closes_columns shown_paper papers ∙ map_same (λ p. closes_columns (shown_paper p))
      (λ p. shown_paper (closed_by file number p)) closes_paper papers ∙ sym (map-map shown_paper (closed_by file number) papers) in
      let right : map closes_columns (map (drop 1) rows) ≡ map (drop 1) (map closes rows) =
      map-map closes_columns (drop 1) rows ∙ map_same (λ r. closes_columns (drop 1 r)) (λ r. drop 1 (closes r)) (λ r. sym (cut_closes r)) rows
      ∙ sym (map-map (drop 1) closes rows) in
      subst (λ l. IsPermutation l (map (drop 1) (map closes rows))) left
      (subst (IsPermutation (map closes_columns (map shown_paper papers))) right (IsPermutation-map closes_columns _ _ kept))

  unclosed : (rows : List Row) → filter hits rows ≡ [] → map closes rows ≡ rows
  unclosed [] none = refl
  unclosed (r ∷ rs) none = go (hits r) none (unclosed rs)
    where
      go : (b : Bool) → cond b (r ∷ filter hits rs) (filter hits rs) ≡ [] → (filter hits rs ≡ [] → map closes rs ≡ rs) →
          cond b (drop 1 (shows r)) r ∷ map closes rs ≡ r ∷ rs
      go true none more = absurd cc
      go false none more = ap (λ l. r ∷ l) (more none)

  -- ---- a file's numbers rise, so one paper has the number at most

  later : (n : ℕ) (xs : List Paper) → AllByRecursion (λ (b : Paper). n < b.number) xs → n ≡ number → filter (λ (p : Paper). eqb p.number number) xs ≡ []
  later n [] up is = refl
  later n (x ∷ xs) up is = let apart : eqb x.number number ≡ false = let low = up.0 in grind (arith, nat_tests) in rw apart (later n xs up.1 is)

  once : (xs : List Paper) → IsAscending (λ (a b : Paper). a.number < b.number) xs → length (filter (λ (p : Paper). eqb p.number number) xs) ≤ 1
  once [] up = omega arith
  once (x ∷ xs) up = go (eqb x.number number) refl (once xs up.1)
    where
      go : (b : Bool) → eqb x.number number ≡ b → length (filter (λ (p : Paper). eqb p.number number) xs) ≤ 1 →
          length (cond b (x ∷ filter (λ (p : Paper). eqb p.number number) xs) (filter (λ (p : Paper). eqb p.number number) xs)) ≤ 1
      go true is low = let same : x.number ≡ number = grind (arith, nat_tests) in let none = ap length (later x.number xs up.0 same) in omega (arith, none)
      go false is low = low

  both_tests : (xs : List Paper) → filter is_it xs ≡ filter (λ (p : Paper). eqb p.number number) (filter (λ (p : Paper). eqb p.file file) xs)
  both_tests [] = refl
  both_tests (x ∷ xs) = go (eqb x.file file) (both_tests xs)
    where
      go : (b : Bool) → filter is_it xs ≡ filter (λ (p : Paper). eqb p.number number) (filter (λ (p : Paper). eqb p.file file) xs)
          → cond (b && eqb x.number number) (x ∷ filter is_it xs) (filter is_it xs)
          ≡ filter (λ (p : Paper). eqb p.number number) (cond b (x ∷ filter (λ (p : Paper). eqb p.file file) xs)
          (filter (λ (p : Paper). eqb p.file file) xs))
      go true same = ap (λ l. cond (eqb x.number number) (x ∷ l) l) same
      go false same = same

  -- the columns of the rows that are hit are those of the paper that has the number, if there is one
  hit_columns : (papers : List Paper) (rows : List Row) → IsPermutation (map shown_paper papers) (map (drop 1) rows) → length (filter is_it papers) ≤ 1 →
      map (drop 1) (filter hits rows) ≡ map shown_paper (filter is_it papers)
  hit_columns papers rows kept short =
      let test : Row → Bool = λ c. hits (Null ∷ c) in
      let left : filter test (map shown_paper papers) ≡ map shown_paper (filter is_it papers) = filter-map test shown_paper papers
      ∙ ap (map shown_paper) (filter_same _ _ hits_paper papers) in
      let right : filter test (map (drop 1) rows) ≡ map (drop 1) (filter hits rows) = filter-map test (drop 1) rows
      ∙ ap (map (drop 1)) (filter_same _ _ (λ r. sym (cut_hits r)) rows) in
      let moved = IsPermutation-filter test _ _ kept in
      one_order _ _ (subst (λ n. n ≤ 1) (sym (long shown_paper (filter is_it papers))) short)
      (subst (λ l. IsPermutation l (map (drop 1) (filter hits rows))) left (subst (IsPermutation (filter test (map shown_paper papers))) right moved))

module _ (old new : State) (count : ℕ) (t : Tables) (k : Keeps t old.now) (file number : ℕ) where
  abbrev Closed : Type 0
  Closed =
      Leaves k.schema.order old.now new.now paper_table
      × (IsPermutation (map shown_paper (map (closed_by file number) t.papers)) (map (drop 1) (new.now.trees 8)) × Apart (new.now.trees 8))

  abbrev Set : Type 0
  Set = Sets k.schema.order CLOSE_NOTICE.now 5 paper_table close_notice_query (close_notice_is k.schema.order)
      (close_notice_plain k.schema.order) (key file number) old new count k.schema.is refl

  none_closed : (it : Set) → filter (hits file number) (old.now.trees 8) ≡ [] → it.found ≡ [] → Closed
  none_closed it is found =
      let left = it.none found in
      let same : map (closes file number) (old.now.trees 8) ≡ new.now.trees 8 = unclosed file number (old.now.trees 8) is ∙ sym left.1 in (
        left.0,
        (
          subst (λ rows. IsPermutation (map shown_paper (map (closed_by file number) t.papers)) (map (drop 1) rows)) same
              (closed_rows file number t.papers (old.now.trees 8) k.rows.papers),
          subst Apart (sym left.1) k.rows.apart,
        ),
      )

  -- were the row still there, its key would come twice
  one_closed : (it : Set) (v : Value) (p : Paper) → filter (hits file number) (old.now.trees 8) ≡ (v ∷ shown_paper p) ∷ [] →
      it.found ≡ shows file number (v ∷ shown_paper p) ∷ [] → Closed
  one_closed it v p is found =
      let tree = old.now.trees 8 in
      let q : Paper = record p { is_open = false } in
      let r : Row = v ∷ shown_paper p in
      let w = cast Integer v in
      let made : Row = w ∷ shown_paper q in
      let id = id_in v in
      let left = without_rowid id tree in
      let put = it.put (shows file number r) made found (cast_paper_at v q) in
      let stored : is_int w ≡ true = and_first _ put.keyed in
      let as_int : w ≡ Int (id_in w) = int_is w stored in
      let unique = all_put (λ row. passes Unique (schema_in k.schema.order) new.now.trees paper_table row ≡ true) made left
      (subst (AllByRecursion (λ row. passes Unique (schema_in k.schema.order) new.now.trees paper_table row ≡ true)) put.row
      (put.fits.rules Unique (λ e. absurd cc)).1.1.1.1.1.0) in
      let clash : Row → Bool = λ other. agree plain (1 ∷ 2 ∷ []) other (1 ∷ 2 ∷ []) made && differ (rowid other) w in
      let alone : list_any clash (put_row made left) ≡ false = subst (λ rows. list_any clash rows ≡ false) put.row
      (none_left _ _ unique) in
      let gone : has_rowid id r ≡ true = found_by_rowid (has_rowid id r) (λ stays.
      let clear = any_left clash (λ x. not (has_rowid id x)) (hits file number) r tree is (ap not stays) (any_put clash made left put.fresh alone) in
      let apart = any_left (λ x. is_eq (value_cmp (rowid x) w)) (λ x. not (has_rowid id x)) (hits file number) r tree is (ap not stays)
      (none_equal made left put.fresh) in
      let taken : clash r ≡ true = ap₂ ◌&&◌ (agrees v w p) (differs v w (stored_not_null v stored) (int_not_null w stored) apart) in
      sym taken ∙ clear) in
      let one = same_one (hits file number) (has_rowid id) r tree is gone (k.rows.apart id) in
      let hit = passes_first (hits file number) tree r [] is in
      let only = all_kept (λ x. has_rowid id x ≡ true) (hits file number) tree (subst (AllByRecursion (λ x. has_rowid id x ≡ true)) (sym is) (gone, tt)) in
      let stays = all_weaker _ (λ x. has_rowid id x ≡ false → closes file number x ≡ x)
      (λ x known other. untouched x (hits file number x) refl known other) tree only in
      let moved = IsPermutation-map (drop 1) _ _ (map_one (has_rowid id) (closes file number) r tree stays one) in
      let here : drop 1 (closes file number r) ≡ shown_paper q = ap (λ b. drop 1 (cond b (drop 1 (shows file number r)) r)) hit in
      let placed = IsPermutation-map (drop 1) _ _ (put_fresh made left put.fresh) in
      let there = IsPermutation-trans _ _ _ (closed_rows file number t.papers tree k.rows.papers)
      (IsPermutation-trans _ _ _ (subst (λ c. IsPermutation (map (drop 1) (map (closes file number) tree)) (c ∷ map (drop 1) left)) here moved) placed) in
      let fresh = subst (λ x. IsFreshIn (x ∷ shown_paper q) left) as_int put.fresh in
      let spread : Apart left = λ i. let a = fewer (has_rowid i) (λ x. not (has_rowid id x)) tree in let b = k.rows.apart i in omega (arith, a, b) in
      let wide : Apart (put_row made left) = subst (λ x. Apart (put_row (x ∷ shown_paper q) left)) (sym as_int)
      (apart_put (id_in w) (shown_paper q) left fresh spread) in (
        put.leaves,
        (
          subst (λ rows. IsPermutation (map shown_paper (map (closed_by file number) t.papers)) (map (drop 1) rows)) (sym put.row) there,
          subst Apart (sym put.row) wide,
        ),
      )
    where
      found_by_rowid : (b : Bool) → (b ≡ false → true ≡ false) → b ≡ true
      found_by_rowid true h = refl
      found_by_rowid false h = absurd (true≢false (h refl))

      none_equal : (made : Row) (rows : List Row) → IsFreshIn made rows → list_any (λ x. is_eq (value_cmp (rowid x) (rowid made))) rows ≡ false
      none_equal made [] free = refl
      none_equal made (x ∷ xs) free = ap₂ ◌||◌ free.0 (none_equal made xs free.1)

      untouched : (x : Row) (b : Bool) → hits file number x ≡ b → (hits file number x ≡ true → has_rowid (id_in v) x ≡ true) → has_rowid (id_in v) x ≡ false →
          cond b (drop 1 (shows file number x)) x ≡ x
      untouched x true is known other = absurd (true≢false (sym (known is) ∙ other))
      untouched x false is known other = refl

  pub notice_set : Executes CLOSE_NOTICE.now (int file ∷ int number ∷ []) old new (Ok count) →
      Keeps (record t { papers = map (closed_by file number) t.papers }) new.now
  notice_set h =
      let tree = old.now.trees 8 in
      let it : Set = sets k.schema.order CLOSE_NOTICE.now 5 paper_table close_notice_query (close_notice_is k.schema.order)
      (close_notice_plain k.schema.order) (key file number) old new count k.schema.is refl
      (λ tally x. x) h in
      let short : length (filter (is_it file number) t.papers) ≤ 1 = subst (λ l. length l ≤ 1) (sym (both_tests file number t.papers))
      (once file number (filter (λ (p : Paper). eqb p.file file) t.papers) (k.keyed.papers file)) in
      let columns = hit_columns file number t.papers tree k.rows.papers short in
      let few : length (filter (hits file number) tree) ≤ 1 = let a = long (drop 1) (filter (hits file number) tree) in let b =
      long shown_paper (filter (is_it file number) t.papers) in let c = ap length columns in omega (arith, short, a, b, c) in
      let found = finds_one (λ (r : Row). r) (shows file number) 8 close_notice_query.filter close_notice_query.project (overlay old.now.trees [])
      (key file number) tree (hits file number) (λ r. refl) (λ r. refl)
      (IsPermutation-same _ _ (map_id tree)) few it.found (it.answer.answer Null) in
      let made = go it (filter (hits file number) tree) (filter (is_it file number) t.papers) refl found columns short in
      record {
        schema = second_after old.now new.now k.schema made.0.schema;
        now = k.now;
        keyed = keyed_closed t k.keyed file number;
        rows = keeps_papers old.now new.now t k.schema k.rows (map (closed_by file number) t.papers) made.0 made.1;
      }
    where
      one : (it : Set) (r : Row) (p : Paper) → filter (hits file number) (old.now.trees 8) ≡ r ∷ [] → it.found ≡ shows file number r ∷ [] →
          drop 1 r ≡ shown_paper p → Closed
      one it [] p is found e = absurd cc
      one it (v ∷ c) p is found e = one_closed it v p (is ∙ ap (λ l. (v ∷ l) ∷ []) e) (found ∙ ap (λ l. shows file number (v ∷ l) ∷ []) e)

      go : (it : Set) (rows : List Row) (ps : List Paper) → filter (hits file number) (old.now.trees 8) ≡ rows → it.found ≡ map (shows file number) rows →
          map (drop 1) rows ≡ map shown_paper ps → length ps ≤ 1 → Closed
      go it [] ps is found e short = none_closed it is found
      go it (r ∷ rs) [] is found e short = absurd cc
      go it (r ∷ []) (p ∷ ps) is found e short = one it r p is found (head e)
      go it (r ∷ s ∷ rs) (p ∷ []) is found e short = absurd cc
      go it (r ∷ s ∷ rs) (p ∷ q ∷ ps) is found e short = absurd (omega (arith, short))
