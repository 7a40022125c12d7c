-- The rows of a sound database have one value for each column.
use Rattle.std.proofs.Common.{◌≡◌, ℕ, suc, ◌+◌, ◌<◌, true, false, not, eqb, cond, List, [], ◌∷◌, ◌++◌, drop, length, Some, None, refl, sym}
use Rattle.std.proofs.Common.{ap, ap₂, subst, ◌∙◌, arith, true≢false, append_assoc}
use Rattle.std.specs.Prelude.{◌||◌}
use Rattle.std.specs.List.{AllByRecursion}
use Rattle.std.proofs.lemmas.Bool.{and_parts}
use Rattle.std.proofs.lemmas.Bool.Decides.{nat_tests}
use Rattle.sqlite.specs.declared.types.Value.{Value}
use Rattle.sqlite.specs.declared.types.Value.TheVariants.{Null, Int, Real, Text, Blob}
use Rattle.sqlite_value.specs.Order.{Row, column}
use Rattle.sqlite_sql.specs.Ops.{is_null}
use Rattle.sqlite_trees.specs.Tree.{Trees}
use Rattle.sqlite_schema.specs.declared.schema.Column.{Column}
use Rattle.sqlite_schema.specs.declared.schema.Table.{Table}
use Rattle.sqlite_schema.specs.declared.schema.Schema.{Schema}
use Rattle.sqlite_schema.specs.declared.schema.Constraint.TheVariants.{Datatype, NotNull}
use Rattle.sqlite_schema.specs.Rules.{are_typed, are_present, suits, passes}
use Rattle.permit_sql_rows.specs.Typed.{firsts}

-- ---- a row has as many values as its table has columns

long_is : (cs : List Column) (at : ℕ) (row tail : Row) → ((k : ℕ) → column row (at + 1 + k) ≡ column tail k) →
    AllByRecursion (λ (c : Column). c.not_null ≡ true) cs
    → are_typed None at cs tail ≡ true → are_present None at cs row ≡ true → length tail ≡ length cs
long_is [] at row [] same full typed there = refl
long_is [] at row (v ∷ vs) same full typed there = absurd (true≢false (sym typed))
long_is (c ∷ cs) at row [] same full typed there =
    let null : column row (at + 1) ≡ Null = ap (column row) (sym (Rattle.std.proofs.Common.add-zero (at + 1))) ∙ same 0 in
    let first = (and_parts (not c.not_null || not (is_null (column row (at + 1)))) _ there).0 in
    absurd (true≢false (sym first ∙ ap₂ (λ x y. not x || not (is_null y)) full.0 null))
long_is (c ∷ cs) at row (v ∷ vs) same full typed there =
    ap suc (long_is cs (at + 1) row vs (λ k. let next : at + 1 + 1 + k ≡ at + 1 + suc k = omega arith in ap (column row) next ∙ same (suc k)) full.1
    (and_parts _ _ typed).1 (and_parts (not c.not_null || not (is_null (column row (at + 1)))) _ there).1)

-- the same past the column that is the rowid
long_keyed : (cs : List Column) (at : ℕ) (row tail : Row) → ((k : ℕ) → column row (suc at + 1 + k) ≡ column tail k) →
    AllByRecursion (λ (c : Column). c.not_null ≡ true) cs
    → are_typed (Some 0) (suc at) cs tail ≡ true → are_present (Some 0) (suc at) cs row ≡ true → length tail ≡ length cs
long_keyed [] at row [] same full typed there = refl
long_keyed [] at row (v ∷ vs) same full typed there = absurd (true≢false (sym typed))
long_keyed (c ∷ cs) at row [] same full typed there =
    let other : eqb 0 (suc at) ≡ false = grind (arith, nat_tests) in
    let null : column row (suc at + 1) ≡ Null = ap (column row) (sym (Rattle.std.proofs.Common.add-zero (suc at + 1))) ∙ same 0 in
    let first = (and_parts (eqb 0 (suc at) || not c.not_null || not (is_null (column row (suc at + 1)))) _ there).0 in
    absurd (true≢false (sym first ∙ ap (λ b. b || not c.not_null || not (is_null (column row (suc at + 1)))) other
    ∙ ap₂ (λ x y. not x || not (is_null y)) full.0 null))
long_keyed (c ∷ cs) at row (v ∷ vs) same full typed there =
    ap suc (long_keyed cs (suc at) row vs (λ k. let next : suc (suc at) + 1 + k ≡ suc at + 1 + suc k = omega arith in ap (column row) next
    ∙ same (suc k)) full.1
    (subst (λ n. are_typed (Some 0) n cs vs ≡ true) (one_more (suc at)) (and_parts (cond (eqb 0 (suc at)) (is_null v) (suits c v)) _ typed).1)
    (subst (λ n. are_present (Some 0) n cs row ≡ true) (one_more (suc at))
    (and_parts (eqb 0 (suc at) || not c.not_null || not (is_null (column row (suc at + 1)))) _ there).1))
  where
    one_more : (n : ℕ) → n + 1 ≡ suc n
    one_more n = omega arith

null_only : (v : Value) → is_null v ≡ true → v ≡ Null
null_only Null h = refl
null_only (Int n) h = absurd (true≢false (sym h))
null_only (Real x) h = absurd (true≢false (sym h))
null_only (Text t) h = absurd (true≢false (sym h))
null_only (Blob b) h = absurd (true≢false (sym h))

-- a row of a table whose first column is its rowid
keyed_shape : (c : Column) (cs : List Column) (r : Row) → AllByRecursion (λ (c : Column). c.not_null ≡ true) cs → 0 < length cs →
    are_typed (Some 0) 0 (c ∷ cs) (drop 1 r) ≡ true → are_present (Some 0) 0 (c ∷ cs) r ≡ true
    → (length r ≡ 2 + length cs) × (column r 1 ≡ Null)
keyed_shape c cs [] full some typed there = absurd (omega (arith, some, long_keyed cs 0 [] [] (λ k. refl) full (and_parts (is_null c.default) _ typed).1 there))
keyed_shape c cs (a ∷ []) full some typed there = absurd (omega (
  arith,
  some,
  long_keyed cs 0 (a ∷ []) [] (λ k. let next : 1 + 1 + k ≡ suc (suc k) = omega arith in ap (column (a ∷ [])) next) full
      (and_parts (is_null c.default) _ typed).1 there,
))
keyed_shape c cs (a ∷ b ∷ tail) full some typed there =
    let long = long_keyed cs 0 (a ∷ b ∷ tail) tail (λ k. let next : 1 + 1 + k ≡ suc (suc k) = omega arith in ap (column (a ∷ b ∷ tail)) next) full
    (and_parts (is_null b) _ typed).1 there in
    (let whole : length (a ∷ b ∷ tail) ≡ 2 + length cs = omega (arith, long) in whole, null_only b (and_parts (is_null b) _ typed).0)

-- ---- a row is its first values

column_at : (front : Row) (x : Value) (rest : Row) → column (front ++ x ∷ rest) (length front) ≡ x
column_at [] x rest = refl
column_at (y ∷ front) x rest = column_at front x rest

one_more : (front : Row) (x : Value) → length (front ++ x ∷ []) ≡ suc (length front)
one_more [] x = refl
one_more (y ∷ front) x = ap suc (one_more front x)

pub firsts_are : (front rest : Row) → firsts (length rest) (length front) (front ++ rest) ≡ rest
firsts_are front [] = refl
firsts_are front (x ∷ rest) =
    let more = firsts_are (front ++ x ∷ []) rest in
    let there : firsts (length rest) (suc (length front)) (front ++ x ∷ rest) ≡ rest =
    ap₂ (λ n r. firsts (length rest) n r) (sym (one_more front x)) (sym (append_assoc front (x ∷ []) rest)) ∙ more in
    ap₂ ◌∷◌ (column_at front x rest) there

-- the row of a table whose first column is its rowid
abbrev pub IsKeyedRow : ℕ → Row → Type 0
IsKeyedRow n r = column r 0 ∷ Null ∷ firsts n 2 r ≡ r

-- the row of a table with no such column
abbrev pub IsPairedRow : ℕ → Row → Type 0
IsPairedRow n r = firsts n 1 r ≡ drop 1 r

keyed_whole : (c : Column) (cs : List Column) (r : Row) → AllByRecursion (λ (c : Column). c.not_null ≡ true) cs → 0 < length cs →
    are_typed (Some 0) 0 (c ∷ cs) (drop 1 r) ≡ true → are_present (Some 0) 0 (c ∷ cs) r ≡ true → IsKeyedRow (length cs) r
keyed_whole c cs r full some typed there = let it = keyed_shape c cs r full some typed there in go r (length cs) it.0 it.1
  where
    go : (r : Row) (n : ℕ) → length r ≡ 2 + n → column r 1 ≡ Null → IsKeyedRow n r
    go [] n long null = absurd (omega (arith, long))
    go (a ∷ []) n long null = absurd (omega (arith, long))
    go (a ∷ b ∷ rest) n long null =
        let same : length rest ≡ n = omega (arith, long) in
        ap₂ (λ v l. a ∷ v ∷ l) (sym null) (subst (λ m. firsts m 2 (a ∷ b ∷ rest) ≡ rest) same (firsts_are (a ∷ b ∷ []) rest))

tail_of : (r : Row) (k : ℕ) → column r (suc k) ≡ column (drop 1 r) k
tail_of [] k = refl
tail_of (x ∷ r) k = refl

paired_whole : (cs : List Column) (r : Row) → AllByRecursion (λ (c : Column). c.not_null ≡ true) cs → 0 < length cs → are_typed None 0 cs (drop 1 r) ≡ true →
    are_present None 0 cs r ≡ true → IsPairedRow (length cs) r
paired_whole cs r full some typed there =
    go r (length cs) some (long_is cs 0 r (drop 1 r) (λ k. let next : 0 + 1 + k ≡ suc k = omega arith in ap (column r) next ∙ tail_of r k) full typed there)
  where
    go : (r : Row) (n : ℕ) → 0 < n → length (drop 1 r) ≡ n → IsPairedRow n r
    go [] n some long = absurd (omega (arith, some, long))
    go (a ∷ rest) n some long = subst (λ m. firsts m 1 (a ∷ rest) ≡ rest) long (firsts_are (a ∷ []) rest)

module _ (schema : Schema) (db : Trees) (t : Table) where
  pub keyed_rows : (c : Column) (cs : List Column) → t.columns ≡ c ∷ cs → t.key ≡ Some 0 → AllByRecursion (λ (c : Column). c.not_null ≡ true) cs →
      0 < length cs → (rows : List Row)
      → AllByRecursion (λ r. passes Datatype schema db t r ≡ true) rows → AllByRecursion (λ r. passes NotNull schema db t r ≡ true) rows →
      AllByRecursion (IsKeyedRow (length cs)) rows
  keyed_rows c cs are key full some [] typed there = tt
  keyed_rows c cs are key full some (r ∷ rows) typed there = (
    keyed_whole c cs r full some (subst (λ k. are_typed k 0 (c ∷ cs) (drop 1 r) ≡ true) key
        (subst (λ l. are_typed t.key 0 l (drop 1 r) ≡ true) are (and_parts _ _ typed.0).0))
        (subst (λ k. are_present k 0 (c ∷ cs) r ≡ true) key (subst (λ l. are_present t.key 0 l r ≡ true) are there.0)),
    keyed_rows c cs are key full some rows typed.1 there.1,
  )

  pub paired_rows : (cs : List Column) → t.columns ≡ cs → t.key ≡ None → AllByRecursion (λ (c : Column). c.not_null ≡ true) cs → 0 < length cs →
      (rows : List Row)
      → AllByRecursion (λ r. passes Datatype schema db t r ≡ true) rows → AllByRecursion (λ r. passes NotNull schema db t r ≡ true) rows →
      AllByRecursion (IsPairedRow (length cs)) rows
  paired_rows cs are key full some [] typed there = tt
  paired_rows cs are key full some (r ∷ rows) typed there = (
    paired_whole cs r full some (subst (λ k. are_typed k 0 cs (drop 1 r) ≡ true) key
        (subst (λ l. are_typed t.key 0 l (drop 1 r) ≡ true) are (and_parts _ _ typed.0).0))
        (subst (λ k. are_present k 0 cs r ≡ true) key (subst (λ l. are_present t.key 0 l r ≡ true) are there.0)),
    paired_rows cs are key full some rows typed.1 there.1,
  )
