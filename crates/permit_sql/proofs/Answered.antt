-- What the texts that read whole tables show of typed tables.
use Rattle.std.proofs.Common.{◌≡◌, ℕ, suc, ◌<◌, List, [], ◌∷◌, map, refl, ap, subst, ◌∙◌, arith, IsPermutation, Less}
use Rattle.std.specs.List.{flat_map, AllByRecursion}
use Rattle.std.proofs.lemmas.Bool.Decides.{nat_tests}
use Rattle.std.proofs.lemmas.List.Sorted.{IsPermutation-map, IsPermutation-trans}
use Rattle.sqlite.specs.declared.types.Value.TheVariants.{Null}
use Rattle.sqlite_value.specs.Order.{Row, value_cmp}
use Rattle.sqlite_value.specs.Keys.{ascending}
use Rattle.sqlite_value.specs.declared.keys.Collation.TheVariants.{Binary}
use Rattle.sqlite_value.proofs.OrderLemmas.{value_cmp-Int}
use Rattle.sqlite_sql.specs.Term.{Term, col}
use Rattle.sqlite_sql.specs.Query.{Query, inner, end, IsAnswer, Output, output, output_cmp}
use Rattle.sqlite_sql.specs.Program.{overlay}
use Rattle.sqlite_sql.proofs.QueryLemmas.{output_cmp_total}
use Rattle.sqlite_trees.specs.Tree.{Trees, IsAscending}
use Rattle.sqlite_keyed.proofs.ListLemmas.{map-map, map_same, ascending-map, ascending_weaker}
use Rattle.sqlite_keyed.proofs.SortLemmas.{sorted_unique}
use Rattle.sqlite.specs.State.{State, Shown}
use Rattle.permit_base.specs.declared.words.Edition.{Edition}
use Rattle.permit_model.specs.Tables.{Tables}
use Rattle.permit_sql_rows.specs.Rows.{int, party_row, parcel_row, file_row, shown_party, shown_parcel, shown_file}
use Rattle.permit_sql_rows.specs.Kept.{KeepsUnder}
use Rattle.permit_sql.specs.Found.{IsNumbered, AreTyped}
use Rattle.permit_sql.specs.declared.texts.TheConstants.{EACH_PARTY, EACH_PARCEL, EACH_FILE}
use Rattle.permit_sql_statements.proofs.Lookups.{plain_query, answers}
use Rattle.permit_sql.proofs.WholeMeanings.{read_in, each_party_query, each_party_text, each_parcel_query, each_parcel_text, each_file_query, each_file_text}

-- ---- a table whose rows are keyed by their numbers

abbrev by_number : ℕ → List Term → Query
by_number tree project = plain_query (inner tree end) [] project ((col 1 0, ascending Binary) ∷ [])

pub each_one : (q : Query) (rows : List Row) → map (output q) (flat_map (λ r. ([] ∷ r ∷ []) ∷ []) rows) ≡ map (λ r. output q ([] ∷ r ∷ [])) rows
each_one q [] = refl
each_one q (r ∷ rows) = ap (λ l. output q ([] ∷ r ∷ []) ∷ l) (each_one q rows)

module _ {X : Type 0} (number : X → ℕ) where
  all_above : (n m : ℕ) (xs : List X) → n < m → IsNumbered number m xs → AllByRecursion (λ x. n < number x) xs
  all_above n m [] low h = tt
  all_above n m (x ∷ xs) low h = let e : number x ≡ m = h.0 in (omega (arith, e, low), all_above n (suc m) xs (omega (arith, low)) h.1)

  numbers_rise : (n : ℕ) (xs : List X) → IsNumbered number n xs → IsAscending (λ a b. number a < number b) xs
  numbers_rise n [] h = tt
  numbers_rise n (x ∷ xs) h = let e : number x ≡ n = h.0 in (all_above (number x) (suc n) xs (omega (arith, e)) h.1, numbers_rise (suc n) xs h.1)

  module _ (enc shown : X → Row) (tree : ℕ) (project : List Term) (outs : (x : X) →
      output (by_number tree project) ([] ∷ enc x ∷ []) ≡ (int (number x) ∷ [], shown x)) where
    -- in the order of the numbers there is one answer
    pub numbered_shown : (db : Trees) (xs : List X) (n : ℕ) → IsNumbered number n xs → IsPermutation (map enc xs) (db tree) → (rows : List Row) →
        IsAnswer (by_number tree project) db [] rows → rows ≡ map shown xs
    numbered_shown db xs n numbered kept rows a =
        let q = by_number tree project in
        let out : X → Output = λ x. (int (number x) ∷ [], shown x) in
        let got = answers (inner tree end) [] project ((col 1 0, ascending Binary) ∷ []) db [] rows a in
        let moved = IsPermutation-map (λ r. output q ([] ∷ r ∷ [])) _ _ kept in
        let here : map (λ r. output q ([] ∷ r ∷ [])) (map enc xs) ≡ map out xs = map-map (λ r. output q ([] ∷ r ∷ [])) enc xs ∙ map_same _ out outs xs in
        let there = subst (λ l. IsPermutation l (map (λ r. output q ([] ∷ r ∷ [])) (db tree))) here moved in
        let same : IsPermutation (map out xs) got.0 = IsPermutation-trans _ _ _ there (subst (λ l. IsPermutation l got.0) (each_one q (db tree)) got.1) in
        let up = ascending-map (λ a b. output_cmp q a b ≡ Less) out xs (ascending_weaker _ _ rise _ (numbers_rise n xs numbered)) in
        got.3 ∙ ap (map (λ (o : Output). o.1)) (sorted_unique (output_cmp q) (output_cmp_total q) (map out xs) got.0 up same got.2)
        ∙ map-map (λ (o : Output). o.1) out xs
      where
        rise : (a b : X) → number a < number b → output_cmp (by_number tree project) (int (number a) ∷ [], shown a) (int (number b) ∷ [], shown b) ≡ Less
        rise a b low =
            let less : value_cmp (int (number a)) (int (number b)) ≡ Less = value_cmp-Int _ _ ∙ grind (arith, nat_tests) in
            rw less refl

module _ (edition : Edition) (old new : State) (t : Tables) (typed : AreTyped t) (k : KeepsUnder edition t old.now) (rows : List Row) where
  pub parties_shown : Shown EACH_PARTY.now [] old new rows → rows ≡ map shown_party t.parties
  parties_shown h =
      let read = read_in edition EACH_PARTY.now each_party_query (each_party_text edition) old new k.schema rows h in
      numbered_shown (λ p. p.id) party_row shown_party 1 each_party_query.project (λ p. refl)
      (overlay old.now.trees []) t.parties 1 typed.party_numbers k.rows.parties rows (read.answer Null)

  pub parcels_shown : Shown EACH_PARCEL.now [] old new rows → rows ≡ map shown_parcel t.parcels
  parcels_shown h =
      let read = read_in edition EACH_PARCEL.now each_parcel_query (each_parcel_text edition) old new k.schema rows h in
      numbered_shown (λ p. p.id) parcel_row shown_parcel 3 each_parcel_query.project (λ p. refl)
      (overlay old.now.trees []) t.parcels 1 typed.parcel_numbers k.rows.parcels rows (read.answer Null)

  pub files_shown : Shown EACH_FILE.now [] old new rows → rows ≡ map shown_file t.files
  files_shown h =
      let read = read_in edition EACH_FILE.now each_file_query (each_file_text edition) old new k.schema rows h in
      numbered_shown (λ f. f.id) file_row shown_file 7 each_file_query.project (λ f. refl)
      (overlay old.now.trees []) t.files 1 typed.file_numbers k.rows.files rows (read.answer Null)
