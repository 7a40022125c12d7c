-- What the texts that read show of the tables.
use Rattle.std.proofs.Common.{◌≡◌, get_or, take, ℕ, zero, suc, ◌+◌, ◌<◌, Bool, true, false, cond, eqb, not, List, [], ◌∷◌, ◌++◌, map, filter, find, drop}
use Rattle.std.proofs.Common.{length, slice_get, Some, option_map, refl, sym, ap, ap₂, subst, ◌∙◌, arith, IsPermutation, Less}
use Rattle.std.specs.Prelude.{◌&&◌, bytes_eq, IfSome, IfOk, Result, Ok, Err}
use Rattle.std.specs.Result.{result_ok}
use Rattle.std.specs.List.{flat_map, list_all, list_any, AllByRecursion}
use Rattle.std.proofs.lemmas.Bool.Decides.{nat_tests}
use Rattle.std.proofs.lemmas.List.Sorted.{length_permutation, IsPermutation-trans, IsPermutation-sym}
use Rattle.sqlite.specs.declared.types.Value.TheVariants.{Null, Text}
use Rattle.sqlite_value.specs.Order.{Row, value_cmp}
use Rattle.sqlite_value.proofs.OrderLemmas.{value_cmp-Int}
use Rattle.sqlite_value.specs.declared.keys.Collation.TheVariants.{Binary}
use Rattle.sqlite_sql.specs.declared.ops.BinaryOp.TheVariants.{Compare}
use Rattle.sqlite_sql.specs.declared.ops.CompareOp.TheVariants.{Eq}
use Rattle.sqlite_sql.specs.Ops.{binary, is_true}
use Rattle.sqlite_sql.specs.Term.{Term, holds}
use Rattle.sqlite_sql.specs.Query.{Output, output, output_cmp, inner, end, IsAnswer}
use Rattle.sqlite_sql.specs.Program.{overlay}
use Rattle.sqlite_sql.proofs.QueryLemmas.{output_cmp_total}
use Rattle.sqlite_keyed.proofs.ListLemmas.{IsPermutation-flat_map, flat_map-map, flat_map_same_on, map-map, none_counted, ascending-map, ascending_weaker}
use Rattle.sqlite_keyed.proofs.ListLemmas.{slice_get-filter, IsPermutation-same}
use Rattle.sqlite_keyed.proofs.SortLemmas.{sorted_unique}
use Rattle.sqlite.specs.State.{State, Shown}
use Rattle.sqlite.proofs.Callers.{reads_as}
use Rattle.permit_model.specs.Parcels.{Interest}
use Rattle.permit_model.specs.Tables.{Tables, Paper}
use Rattle.permit_sql_rows.specs.Schema.{schema_in}
use Rattle.permit_sql_rows.specs.Rows.{int, flag, desk_row, party_row, parcel_row, file_row, shown_desk, shown_party, shown_parcel, shown_file, shown_interest}
use Rattle.permit_sql_rows.specs.Rows.{shown_paper}
use Rattle.permit_sql_rows.specs.Typed.{firsts}
use Rattle.permit_sql_rows.specs.Kept.{Keeps}
use Rattle.permit_sql_statements.specs.declared.texts.TheConstants.{READ_DESK, READ_PARTY, FIND_PARTY, READ_PARCEL, FIND_PARCEL, FIND_INTEREST}
use Rattle.permit_sql_statements.specs.declared.texts.TheConstants.{READ_FILE, READ_INTERESTS, READ_PAPERS, FIND_NOTICE}
use Rattle.permit_sql_statements.proofs.Lookups.{plain_query, answers, put_out, spread, put_all_out, put_out_is, one_test, eq_is, text_is, finds_one}
use Rattle.permit_sql_statements.proofs.Wholes.{whole_shown, interests_among}
use Rattle.permit_sql_statements.proofs.QueryTexts.{read_desk_query, read_desk_is, read_desk_plain, read_desk_unlisted, read_party_query, read_party_is}
use Rattle.permit_sql_statements.proofs.QueryTexts.{read_party_plain, read_party_unlisted, find_party_query, find_party_is, find_party_plain}
use Rattle.permit_sql_statements.proofs.QueryTexts.{find_party_unlisted, read_parcel_query, read_parcel_is, read_parcel_plain, read_parcel_unlisted}
use Rattle.permit_sql_statements.proofs.QueryTexts.{find_parcel_query, find_parcel_is, find_parcel_plain, find_parcel_unlisted, find_interest_query}
use Rattle.permit_sql_statements.proofs.QueryTexts.{find_interest_is, find_interest_plain, find_interest_unlisted}
use Rattle.permit_sql_statements.proofs.QueryTexts.{read_file_query, read_file_is, read_file_plain}
use Rattle.permit_sql_statements.proofs.QueryTexts.{read_interests_query, read_interests_is, read_interests_plain, read_interests_unlisted}
use Rattle.permit_sql_statements.proofs.QueryTexts.{read_file_unlisted, read_papers_query, read_papers_is, read_papers_plain, read_papers_unlisted}
use Rattle.permit_sql_statements.proofs.QueryTexts.{find_notice_query, find_notice_is, find_notice_plain, find_notice_unlisted}

module _ (old new : State) (t : Tables) (rows : List Row) (k : Keeps t old.now) where
  pub desk_shown : Shown READ_DESK.now [] old new rows → rows ≡ shown_desk t.desk ∷ []
  desk_shown h =
      let o = k.schema.order in
      let read = reads_as READ_DESK.now [] old new (schema_in o) k.schema.is _ (read_desk_is o) (read_desk_plain o) (read_desk_unlisted o) rows h in
      finds_one desk_row shown_desk 0 read_desk_query.filter read_desk_query.project (overlay old.now.trees []) [] (t.desk ∷ []) (λ d. true) (λ d. refl)
      (λ d. refl)
      (IsPermutation-same _ _ (sym k.rows.desk)) (omega arith) rows (read.answer Null)

  pub party_shown : (id : ℕ) → Shown READ_PARTY.now (int id ∷ []) old new rows → rows ≡ map shown_party (filter (λ p. eqb p.id id) t.parties)
  party_shown id h =
      let o = k.schema.order in
      let read = reads_as READ_PARTY.now (int id ∷ []) old new (schema_in o) k.schema.is _ (read_party_is o) (read_party_plain o) (read_party_unlisted o) rows h in
      finds_one party_row shown_party 1 read_party_query.filter read_party_query.project (overlay old.now.trees []) (int id ∷ []) t.parties (λ p. eqb p.id id)
      (λ p. one_test _ ∙ eq_is p.id id) (λ p. refl)
      k.rows.parties (k.keyed.parties id) rows (read.answer Null)

  pub digest_shown : (digest : List ℕ) → Shown FIND_PARTY.now (Text digest ∷ []) old new rows →
      rows ≡ map shown_party (filter (λ p. bytes_eq p.digest digest) t.parties)
  digest_shown digest h =
      let o = k.schema.order in
      let read = reads_as FIND_PARTY.now (Text digest ∷ []) old new (schema_in o) k.schema.is _ (find_party_is o) (find_party_plain o) (find_party_unlisted o) rows h in
      finds_one party_row shown_party 1 find_party_query.filter find_party_query.project (overlay old.now.trees []) (Text digest ∷ []) t.parties
      (λ p. bytes_eq p.digest digest) (λ p. one_test _ ∙ text_is p.digest digest) (λ p. refl)
      k.rows.parties (k.keyed.digests digest) rows (read.answer Null)

  pub parcel_shown : (id : ℕ) → Shown READ_PARCEL.now (int id ∷ []) old new rows → rows ≡ map shown_parcel (filter (λ p. eqb p.id id) t.parcels)
  parcel_shown id h =
      let o = k.schema.order in
      let read = reads_as READ_PARCEL.now (int id ∷ []) old new (schema_in o) k.schema.is _ (read_parcel_is o) (read_parcel_plain o) (read_parcel_unlisted o) rows h in
      finds_one parcel_row shown_parcel 3 read_parcel_query.filter read_parcel_query.project (overlay old.now.trees []) (int id ∷ []) t.parcels
      (λ p. eqb p.id id) (λ p. one_test _ ∙ eq_is p.id id) (λ p. refl)
      k.rows.parcels (k.keyed.parcels id) rows (read.answer Null)

  pub lot_shown : (lot : List ℕ) → Shown FIND_PARCEL.now (Text lot ∷ []) old new rows → rows ≡ map shown_parcel (filter (λ p. bytes_eq p.lot lot) t.parcels)
  lot_shown lot h =
      let o = k.schema.order in
      let read = reads_as FIND_PARCEL.now (Text lot ∷ []) old new (schema_in o) k.schema.is _ (find_parcel_is o) (find_parcel_plain o) (find_parcel_unlisted o) rows h in
      finds_one parcel_row shown_parcel 3 find_parcel_query.filter find_parcel_query.project (overlay old.now.trees []) (Text lot ∷ []) t.parcels
      (λ p. bytes_eq p.lot lot) (λ p. one_test _ ∙ text_is p.lot lot) (λ p. refl)
      k.rows.parcels (k.keyed.lots lot) rows (read.answer Null)

  pub file_shown : (id : ℕ) → Shown READ_FILE.now (int id ∷ []) old new rows → rows ≡ map shown_file (filter (λ f. eqb f.id id) t.files)
  file_shown id h =
      let o = k.schema.order in
      let read = reads_as READ_FILE.now (int id ∷ []) old new (schema_in o) k.schema.is _ (read_file_is o) (read_file_plain o) (read_file_unlisted o) rows h in
      finds_one file_row shown_file 7 read_file_query.filter read_file_query.project (overlay old.now.trees []) (int id ∷ []) t.files (λ f. eqb f.id id)
      (λ f. one_test _ ∙ eq_is f.id id) (λ f. refl)
      k.rows.files (k.keyed.files id) rows (read.answer Null)

  -- ---- tables whose rowid is of no account

  -- whether a row is shown: one that passes the test, of a table whose rowid is of no account
  row_shown : {X : Type 0} (tree : ℕ) (enc : X → Row) (test : X → Bool) (filter_by project : List Term) (params : Row) (xs : List X)
      → ((r : Row) → put_out (plain_query (inner tree end) filter_by project []) params r
      ≡ put_out (plain_query (inner tree end) filter_by project []) params (Null ∷ drop 1 r))
      → ((x : X) → list_all (holds (params ∷ (Null ∷ enc x) ∷ [])) filter_by ≡ test x)
      → IsPermutation (map enc xs) (map (drop 1) (overlay old.now.trees [] tree))
      → IsAnswer (plain_query (inner tree end) filter_by project []) (overlay old.now.trees []) params rows
      → not (eqb (length rows) 0) ≡ list_any test xs
  row_shown {X} tree enc test filter_by project params xs cut tests kept answer =
      let q = plain_query (inner tree end) filter_by project [] in
      let db = overlay old.now.trees [] in
      let got = answers (inner tree end) filter_by project [] db params rows answer in
      let out : X → Output = λ x. output q (params ∷ (Null ∷ enc x) ∷ []) in
      let part : Row → List Output = λ c. put_out q params (Null ∷ c) in
      let over : flat_map (put_out q params) (db tree) ≡ flat_map part (map (drop 1) (db tree)) =
      flat_map_same_on _ _ cut (db tree) ∙ sym (flat_map-map part (drop 1) (db tree)) in
      let there = subst (λ l. IsPermutation l (flat_map part (map (drop 1) (db tree)))) (put_all_out part enc test out
      (λ x. put_out_is q params (Null ∷ enc x) (test x) (out x) (tests x) refl) xs)
      (IsPermutation-flat_map part _ _ kept) in
      let same = IsPermutation-trans _ _ _ there (subst (λ l. IsPermutation l got.0) (spread q params (db tree) ∙ over) got.1) in
      let counted : length rows ≡ length (filter test xs) = ap length got.3 ∙ long_map (λ (o : Output). o.1) got.0 ∙ length_permutation _ _ same
      ∙ long_map out _ in
      ap (λ n. not (eqb n 0)) counted ∙ ap not (none_counted test xs) ∙ twice _
    where
      long_map : {A B : Type 0} (f : A → B) (xs : List A) → length (map f xs) ≡ length xs
      long_map f [] = refl
      long_map f (x ∷ xs) = ap suc (long_map f xs)

      twice : (b : Bool) → not (not b) ≡ b
      twice true = refl
      twice false = refl

  pub interest_shown : (parcel party : ℕ) → Shown FIND_INTEREST.now (int parcel ∷ int party ∷ []) old new rows →
      not (eqb (length rows) 0) ≡ list_any (λ i. eqb i.parcel parcel && eqb i.party party) t.interests
  interest_shown parcel party h =
      let params = int parcel ∷ int party ∷ [] in
      let o = k.schema.order in
      let read = reads_as FIND_INTEREST.now params old new (schema_in o) k.schema.is _ (find_interest_is o) (find_interest_plain o) (find_interest_unlisted o) rows h in
      row_shown 5 shown_interest (λ i. eqb i.parcel parcel && eqb i.party party) find_interest_query.filter find_interest_query.project params t.interests
      (cut parcel party)
      (λ i. ap₂ ◌&&◌ (eq_is i.parcel parcel) (one_test _ ∙ eq_is i.party party)) k.rows.interests (read.answer Null)
    where
      cut : (parcel party : ℕ) (r : Row) → put_out find_interest_query (int parcel ∷ int party ∷ []) r
          ≡ put_out find_interest_query (int parcel ∷ int party ∷ []) (Null ∷ drop 1 r)
      cut parcel party [] = refl
      cut parcel party (x ∷ r) = refl

  pub interests_shown : Shown READ_INTERESTS.now [] old new rows → (given : List Interest) × (rows ≡ map shown_interest given) × IsPermutation given t.interests
  interests_shown h =
      let o = k.schema.order in
      let read = reads_as READ_INTERESTS.now [] old new (schema_in o) k.schema.is _ (read_interests_is o) (read_interests_plain o) (read_interests_unlisted o) rows h in
      let seen : IsPermutation (map (λ r. firsts 2 1 r) (old.now.trees 5)) rows =
      whole_shown 5 read_interests_query.project read_interests_query.order (overlay old.now.trees []) rows (read.answer Null) in
      let it = interests_among t.interests (old.now.trees 5) rows k.rows.interests seen in
      (it.0, it.1, IsPermutation-sym _ _ it.2)

  pub notice_shown : (file number : ℕ) → Shown FIND_NOTICE.now (int file ∷ int number ∷ []) old new rows →
      not (eqb (length rows) 0) ≡ list_any (λ p. eqb p.file file && (p.is_open && eqb p.number number)) t.papers
  notice_shown file number h =
      let params = int file ∷ int number ∷ [] in
      let o = k.schema.order in
      let read = reads_as FIND_NOTICE.now params old new (schema_in o) k.schema.is _ (find_notice_is o) (find_notice_plain o) (find_notice_unlisted o) rows h in
      row_shown 8 shown_paper (λ p. eqb p.file file && (p.is_open && eqb p.number number)) find_notice_query.filter find_notice_query.project params t.papers
      (cut file number)
      (λ p. ap₂ ◌&&◌ (eq_is p.file file) (ap₂ ◌&&◌ (flag_equals p.is_open) (one_test _ ∙ eq_is p.number number))) k.rows.papers (read.answer Null)
    where
      cut : (file number : ℕ) (r : Row) → put_out find_notice_query (int file ∷ int number ∷ []) r
          ≡ put_out find_notice_query (int file ∷ int number ∷ []) (Null ∷ drop 1 r)
      cut file number [] = refl
      cut file number (x ∷ r) = refl

      flag_equals : (b : Bool) → is_true (binary (Compare Eq Binary) (flag b) (int 1)) ≡ b
      flag_equals true = eq_is 1 1
      flag_equals false = eq_is 0 1

  pub papers_shown : (file : ℕ) → Shown READ_PAPERS.now (int file ∷ []) old new rows → rows ≡ map shown_paper (filter (λ p. eqb p.file file) t.papers)
  papers_shown file h =
      let params = int file ∷ [] in
      let o = k.schema.order in
      let read = reads_as READ_PAPERS.now params old new (schema_in o) k.schema.is _ (read_papers_is o) (read_papers_plain o) (read_papers_unlisted o) rows h in
      let db = overlay old.now.trees [] in
      let got = answers read_papers_query.from read_papers_query.filter read_papers_query.project read_papers_query.order db params rows (read.answer Null) in
      let test : Paper → Bool = λ p. eqb p.file file in
      let part : Row → List Output = λ c. put_out read_papers_query params (Null ∷ c) in
      let over : flat_map (put_out read_papers_query params) (db 8) ≡ flat_map part (map (drop 1) (db 8)) = flat_map_same_on _ _ (cut file) (db 8)
      ∙ sym (flat_map-map part (drop 1) (db 8)) in
      let there = subst (λ l. IsPermutation l (flat_map part (map (drop 1) (db 8)))) (put_all_out part shown_paper test out
      (λ p. put_out_is read_papers_query params (Null ∷ shown_paper p) (test p) (out p) (one_test _ ∙ eq_is p.file file) refl) t.papers)
      (IsPermutation-flat_map part _ _ k.rows.papers) in
      let same = IsPermutation-trans _ _ _ there (subst (λ l. IsPermutation l got.0) (spread read_papers_query params (db 8) ∙ over) got.1) in
      let up = ascending-map (λ a b. output_cmp read_papers_query a b ≡ Less) out _ (ascending_weaker _ _ (λ a b low. rise a b low) _ (k.keyed.papers file)) in
      got.3 ∙ ap (map (λ (o : Output). o.1)) (sorted_unique (output_cmp read_papers_query) (output_cmp_total read_papers_query)
      (map out (filter test t.papers)) got.0 up same got.2)
      ∙ map-map (λ (o : Output). o.1) out _
    where
      out : Paper → Output
      out p = (int p.number ∷ [], shown_paper p)

      rise : (a b : Paper) → a.number < b.number → output_cmp read_papers_query (out a) (out b) ≡ Less
      rise a b low =
          let less : value_cmp (int a.number) (int b.number) ≡ Less = value_cmp-Int _ _ ∙ grind (arith, nat_tests) in
          rw less refl

      cut : (file : ℕ) (r : Row) → put_out read_papers_query (int file ∷ []) r ≡ put_out read_papers_query (int file ∷ []) (Null ∷ drop 1 r)
      cut file [] = refl
      cut file (x ∷ r) = refl

-- ---- what was read of a row

-- what is said of a value that was read holds of what is given for it
pub got_same : {A E F : Type 0} (given : Result A E) (read : Result A F) (P : A → Type 0) → result_ok given ≡ result_ok read → IfOk read P → IfOk given P
got_same (Ok a) (Ok b) P e h = let same : a ≡ b = cc in subst P (sym same) h
got_same (Ok a) (Err fault) P e h = absurd cc
got_same (Err error) read P e h = tt

-- ---- the first row of an answer

pub first_of : {X : Type 0} (shown : X → Row) (test : X → Bool) (xs : List X) → slice_get (map shown (filter test xs)) 0 ≡ option_map shown (find test xs)
first_of shown test xs = go shown (filter test xs) ∙ ap (option_map shown) (slice_get-filter test xs)
  where
    go : {X : Type 0} (shown : X → Row) (ys : List X) → slice_get (map shown ys) 0 ≡ option_map shown (slice_get ys 0)
    go shown [] = refl
    go shown (y ∷ ys) = refl

pub all_found : {X : Type 0} (test : X → Bool) (P : X → Type 0) (xs : List X) → AllByRecursion P xs → IfSome (find test xs) P
all_found test P [] all = tt
all_found test P (x ∷ xs) all = go (test x) (all_found test P xs all.1)
  where
    go : (b : Bool) → IfSome (find test xs) P → IfSome (cond b (Some x) (find test xs)) P
    go true more = all.0
    go false more = more

-- ---- the interests and the papers that were read so far

-- an interest is the one of its row
pub interest_is : (row : Row) (i : Interest) → (firsts 2 0 row ≡ int i.parcel ∷ int i.party ∷ []) → (is : Interest) → row ≡ shown_interest is → i ≡ is
interest_is row i back is e =
    let shown : int i.parcel ∷ int i.party ∷ [] ≡ int is.parcel ∷ int is.party ∷ [] = sym back ∙ ap (firsts 2 0) e in
    let parcel : i.parcel ≡ is.parcel = cc in
    let party : i.party ≡ is.party = cc in
    let made : ℕ → ℕ → Interest = λ p q. record { parcel = p; party = q } in
    ap₂ made parcel party

pub one_more : {X : Type 0} (shown : X → Row) (xs : List X) (rows : List Row) (at : ℕ) (row : Row) (x : X) → rows ≡ map shown xs → at < length rows →
    row ≡ get_or rows at row → ((is : X) → row ≡ shown is → x ≡ is) → take at xs ++ x ∷ [] ≡ take (at + 1) xs
one_more {X} shown xs rows at row x are low here is = go at xs (subst (λ l. at < length l) are low) (subst (λ l. row ≡ get_or l at row) are here)
  where
    go : (n : ℕ) (ys : List X) → n < length (map shown ys) → row ≡ get_or (map shown ys) n row → take n ys ++ x ∷ [] ≡ take (n + 1) ys
    go n [] low e = absurd (omega (arith, low))
    go zero (y ∷ ys) low e = ap (λ z. z ∷ []) (is y e)
    go (suc n) (y ∷ ys) low e =
        let more : n + 1 ≡ suc n = omega arith in
        let last : suc n + 1 ≡ suc (suc n) = omega arith in
        rw last (ap (λ l. y ∷ l) (go n ys (omega (arith, low)) e ∙ ap (λ m. take m ys) more))
