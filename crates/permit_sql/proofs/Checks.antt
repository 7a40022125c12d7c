-- What the tables' rows are where all were taken.
use Rattle.std.proofs.Common.{◌≡◌, codes, ℕ, Bool, true, false, not, eqb, List, [], ◌∷◌, map, drop, length, refl, sym, ap₂, subst, ◌∙◌, arith}
use Rattle.std.proofs.Common.{IsPermutation}
use Rattle.std.specs.Prelude.{◌&&◌, MatchBool, bytes_eq}
use Rattle.std.specs.List.{AllByRecursion, list_any}
use Rattle.std.proofs.lemmas.Bool.{and_parts}
use Rattle.std.proofs.lemmas.Bool.Decides.{nat_tests}
use Rattle.sqlite.specs.declared.types.Value.TheVariants.{Null}
use Rattle.sqlite_value.specs.Order.{Row, column}
use Rattle.sqlite_value.specs.declared.keys.Collation.TheVariants.{Binary}
use Rattle.sqlite_value.specs.Keys.{plain, first_key, ascending}
use Rattle.sqlite_value.proofs.OrderLemmas.{value_cmp-Int}
use Rattle.sqlite_sql.specs.Ops.{binary}
use Rattle.sqlite_sql.specs.Program.{overlay}
use Rattle.sqlite_sql.specs.Query.{Query, inner, end}
use Rattle.sqlite_sql.specs.Term.{col}
use Rattle.sqlite_trees.specs.Tree.{rowid, Trees}
use Rattle.sqlite_trees.specs.declared.store.Store.{Ghosts}
use Rattle.sqlite_schema.specs.declared.schema.Column.{Column}
use Rattle.sqlite_schema.specs.declared.schema.Schema.{Schema}
use Rattle.sqlite_schema.specs.declared.schema.Constraint.{Constraint}
use Rattle.sqlite_schema.specs.declared.schema.Constraint.TheVariants.{Datatype, NotNull, Unique}
use Rattle.sqlite_schema.specs.Rules.{agree, differ, Keeps as KeepsRule}
use Rattle.sqlite.specs.Effect.{Database}
use Rattle.sqlite.specs.Held.{Held, state}
use Rattle.permit_base.specs.declared.words.Edition.{Edition}
use Rattle.permit_model.specs.Caller.{Party}
use Rattle.permit_model.specs.Parcels.{Parcel}
use Rattle.permit_sql_rows.specs.Schema.{IsOffice, key_column, int_column, text_column, party_table, parcel_table}
use Rattle.permit_sql_rows.specs.Rows.{int, party_row, parcel_row, shown_party, shown_parcel}
use Rattle.permit_sql_rows.specs.Typed.{firsts, IsObject, IsParty, IsParcel}
use Rattle.permit_sql.specs.Found.{TookTable, TakesNumbered, TakesInterest, RefusesNumbered, HasNumbered, HasParties, HasParcels}
use Rattle.permit_sql.specs.declared.typed.Numbered.{Numbered}
use Rattle.permit_sql.specs.declared.texts.TheConstants.{EACH_PARTY, EACH_PARCEL}
use Rattle.permit_sql_statements.proofs.Lookups.{plain_query, text_is, one_test}
use Rattle.permit_sql_statements.proofs.QueryTexts.{columns_of}
use Rattle.permit_sql_statements.proofs.Wholes.{whole_shown}
use Rattle.permit_sql.proofs.Offices.{laid, rule_of}
use Rattle.permit_sql.proofs.WholeMeanings.{IsTextIn, read_in, each_party_text, each_parcel_text}
use Rattle.permit_sql.proofs.Shaped.{IsKeyedRow, keyed_rows}
use Rattle.permit_sql.proofs.Taking.{took_numbered, in_tree, map_itself}
use Rattle.permit_sql.proofs.Unclashed.{all_weaker, once_each, unclashed}

ne_is : (a b : ℕ) → differ (int a) (int b) ≡ not (eqb a b)
unfolding binary
ne_is a b = rw value_cmp-Int (grind (arith, nat_tests))

-- another row has the text at this place
abbrev same_text : ℕ → Row → Row → Bool
same_text place other row = agree plain (place ∷ []) other (place ∷ []) row && differ (rowid other) (rowid row)

party_clash : (x y : Party) → same_text 4 (party_row y) (party_row x) ≡ (bytes_eq y.digest x.digest && not (eqb y.id x.id))
unfolding first_key
party_clash x y = ap₂ ◌&&◌ (one_test _ ∙ text_is y.digest x.digest) (ne_is y.id x.id)

parcel_clash : (x y : Parcel) → same_text 2 (parcel_row y) (parcel_row x) ≡ (bytes_eq y.lot x.lot && not (eqb y.id x.id))
unfolding first_key
parcel_clash x y = ap₂ ◌&&◌ (one_test _ ∙ text_is y.lot x.lot) (ne_is y.id x.id)

not_true : (b : Bool) → not b ≡ true → b ≡ false
not_true true h = sym h
not_true false h = refl

-- a row of a keyed table out of what is shown of it
abbrev pub with_null : Row → Row
with_null q = column q 0 ∷ Null ∷ drop 1 q

abbrev pub numbered_took : {X : Type 0} → (X → Row) → (X → Type 0) → (X → ℕ) → Numbered X → Row → Numbered X → Bool → Type 0
numbered_took shown IsGood number a row b good =
    MatchBool good (TakesNumbered shown IsGood number a.count row b.count) (RefusesNumbered shown IsGood number a.count row b.lacks_memory)

abbrev pub party_took : Numbered Party → Row → Numbered Party → Bool → Type 0
party_took = numbered_took shown_party IsParty (λ p. p.id)

abbrev pub parcel_took : Numbered Parcel → Row → Numbered Parcel → Bool → Type 0
parcel_took = numbered_took shown_parcel IsParcel (λ p. p.id)

abbrev party_columns : List Column
party_columns = text_column (codes "name") ∷ int_column (codes "role") ∷ text_column (codes "digest") ∷ []

abbrev parcel_columns : List Column
parcel_columns = text_column (codes "lot") ∷ text_column (codes "address") ∷ int_column (codes "owner") ∷ []

-- every row of the tree, in the order of the numbers
abbrev objects_query : ℕ → Query
objects_query tree = plain_query (inner tree end) [] (col 1 0 ∷ columns_of 3 2) ((col 1 0, ascending Binary) ∷ [])

module _ (edition : Edition) {S : Type 0} (g : Ghosts S) (old new : Held S) (office : IsOffice edition (state g old).now.schema) (count : ℕ) where
  abbrev trees : Trees
  trees = (state g old).now.trees

  abbrev schema : Schema
  schema = laid edition (state g old).now.schema office

  abbrev AreKept : Type 0
  AreKept = (c : Constraint) → KeepsRule c schema trees

  -- all rows of a table of objects were taken, no two of which have the same text in one place
  module _ {X : Type 0} (shown row_of : X → Row) (IsGood : X → Type 0) (number : X → ℕ) (text : X → List ℕ) (place tree : ℕ) (sql : List ℕ)
      (is_stored : (db : Trees) → overlay db [] tree ≡ db tree)
      (text_is : IsTextIn edition sql (objects_query tree))
      (clash : (x y : X) → same_text place (row_of y) (row_of x) ≡ (bytes_eq (text y) (text x) && not (eqb (number y) (number x))))
      (is_row : (x : X) → with_null (shown x) ≡ row_of x)
      (wholes : AreKept → AllByRecursion (IsKeyedRow 3) (trees tree))
      (apart : AreKept → AllByRecursion (λ r. list_any (λ o. same_text place o r) (trees tree) ≡ false) (trees tree)) where
    objects_are : (a b : Numbered X) → a.count ≡ 0 → TookTable (numbered_took shown IsGood number) g sql old new a b → b.count ≡ count →
        HasNumbered IsGood number row_of text count (trees tree)
    objects_are a b none took same =
        let was = state g took.1 in
        let q = objects_query tree in
        let kept : AreKept = rule_of edition (state g old).now office took.3 in
        let still = subst (λ (d : Database). IsOffice edition d.schema) (sym took.2) office in
        let read = read_in edition sql q text_is was (state g new) still took.0 took.4 in
        let seen = whole_shown tree q.project q.order (overlay was.now.trees []) took.0 (read.answer Null) in
        let stored = subst (λ l. IsPermutation (map (λ r. column r 0 ∷ firsts 3 2 r) l) took.0) (is_stored was.now.trees) seen in
        let here = subst (λ (d : Database). IsPermutation (map (λ r. column r 0 ∷ firsts 3 2 r) (d.trees tree)) took.0) took.2 stored in
        let taken = took_numbered 4 shown number IsGood (λ (t : Numbered X). t.count) (numbered_took shown IsGood number) (λ a b r h. h) took.0 a b 0 none took.5 in
        let inside = in_tree 4 shown row_of (λ r. column r 0 ∷ firsts 3 2 r) with_null (λ r. r) (λ r. refl) is_row
        (trees tree) took.0 taken.0 here taken.4 (wholes kept) in
        let all = subst (IsPermutation (map row_of taken.0)) (map_itself (trees tree)) inside in
        let long : length taken.0 ≡ count = let e = taken.3 in omega (arith, e, same) in
        record {
          all = taken.0;
          good = taken.1;
          numbered = taken.2;
          counted = long;
          here = all;
          once = once_each text taken.0 (unclashed row_of number text (same_text place) clash 1 taken.0 (trees tree) taken.2 all (apart kept));
        }

  pub parties_are : (a b : Numbered Party) → a.count ≡ 0 → TookTable party_took g EACH_PARTY.now old new a b → b.count ≡ count → HasParties count (trees 1)
  parties_are =
      objects_are shown_party party_row IsParty (λ p. p.id) (λ p. p.digest) 4 1 EACH_PARTY.now (λ db. refl) (each_party_text edition) party_clash
      (λ p. refl)
      (λ kept. keyed_rows schema trees party_table key_column party_columns refl refl (refl, (refl, (refl, tt))) (omega arith)
      (trees 1) (kept Datatype).1.0 (kept NotNull).1.0)
      (λ kept. all_weaker (λ r h. not_true _ (and_parts _ _ h).0) (trees 1) (kept Unique).1.0)

  pub parcels_are : (a b : Numbered Parcel) → a.count ≡ 0 → TookTable parcel_took g EACH_PARCEL.now old new a b → b.count ≡ count → HasParcels count (trees 3)
  parcels_are =
      objects_are shown_parcel parcel_row IsParcel (λ p. p.id) (λ p. p.lot) 2 3 EACH_PARCEL.now (λ db. refl) (each_parcel_text edition) parcel_clash
      (λ p. refl)
      (λ kept. keyed_rows schema trees parcel_table key_column parcel_columns refl refl (refl, (refl, (refl, tt))) (omega arith)
      (trees 3) (kept Datatype).1.1.0 (kept NotNull).1.1.0)
      (λ kept. all_weaker (λ r h. not_true _ (and_parts _ _ h).0) (trees 3) (kept Unique).1.1.0)

pub interest_taken : (row : Row) (parcel party : ℕ) → firsts 2 0 row ≡ int parcel ∷ int party ∷ [] → IsObject parcel → IsObject party → TakesInterest row
interest_taken row parcel party is a b = (record { parcel = parcel; party = party }, record { parcel = a; party = b }, is)
