-- What the rows of interests, files and papers are where all were taken.
use Rattle.std.proofs.Common.{◌≡◌, ◌⊎◌, inl, inr, ℕ, ℤ, suc, ◌≤◌, ◌<ℤ◌, Bool, true, Option, Some, IfSome, List, [], ◌∷◌, ◌++◌, map, drop, filter, length, refl}
use Rattle.std.proofs.Common.{sym, ap, ap₂, subst, ◌∙◌, arith, append-nil, append_assoc, IsPermutation}
use Rattle.std.specs.Prelude.{MatchBool, ⊤}
use Rattle.std.specs.List.{AllByRecursion}
use Rattle.std.specs.Ordering.{is_eq, int_cmp, MatchOrdering}
use Rattle.std.specs.Cmp.{int_ranks, int_cmp_is, Equal-is}
use Rattle.std.specs.declared.cmp.Ordering.TheVariants.{Less}
use Rattle.std.proofs.lemmas.Cmp.{int_cmp_total}
use Rattle.std.specs.Int.Signed.{<ℤ_irrefl}
use Rattle.std.proofs.lemmas.Bool.{cases_Bool}
use Rattle.std.proofs.lemmas.List.Sorted.{length_permutation}
use Rattle.sqlite_keyed.proofs.ListLemmas.{IsPermutation-filter, filter-map}
use Rattle.sqlite.specs.declared.types.Value.TheVariants.{Null, Int}
use Rattle.sqlite_value.specs.Order.{Row, column, value_cmp}
use Rattle.sqlite_value.proofs.OrderLemmas.{value_cmp-Int}
use Rattle.sqlite_sql.specs.Program.{overlay}
use Rattle.sqlite_trees.specs.Tree.{has_rowid}
use Rattle.sqlite_trees.specs.declared.store.Store.{Ghosts}
use Rattle.sqlite_schema.specs.declared.schema.Column.{Column}
use Rattle.sqlite_schema.specs.declared.schema.Constraint.TheVariants.{Datatype, NotNull}
use Rattle.sqlite_schema.specs.declared.schema.Schema.{Schema}
use Rattle.sqlite.specs.Effect.{Database}
use Rattle.sqlite.specs.Held.{Held, state}
use Rattle.permit_base.specs.declared.words.Edition.{Edition}
use Rattle.permit_model.specs.Parcels.{Interest}
use Rattle.permit_model.specs.Tables.{FileRow, Paper}
use Rattle.permit_sql_rows.specs.Schema.{IsOffice, key_column, file_table, interest_table, paper_table}
use Rattle.permit_sql_rows.specs.Rows.{file_row, shown_file, shown_interest, shown_paper}
use Rattle.permit_sql_rows.specs.Typed.{firsts, IsInterest, IsPaper}
use Rattle.permit_sql.specs.Taken.{TookAll}
use Rattle.permit_sql.specs.Found.{TookTable, TakesFile, TakesInterest, TakesPaper, TakesRowid, RefusesFile, RefusesInterest, RefusesPaper, RefusesRowid}
use Rattle.permit_sql.specs.Found.{IsLater, IsNumbered, IsRising, IsGoodFile, IsApart, counted_in, HasFiles, HasInterests, HasPapers}
use Rattle.permit_sql.specs.declared.typed.Interests.{Interests}
use Rattle.permit_sql.specs.declared.typed_files.Files.{Files}
use Rattle.permit_sql.specs.declared.typed_files.Papers.{Papers}
use Rattle.permit_sql.specs.declared.typed_files.Rowids.{Rowids}
use Rattle.permit_sql.specs.declared.texts.TheConstants.{EACH_INTEREST, EACH_FILE, EACH_PAPER, EACH_ROWID}
use Rattle.permit_sql_statements.proofs.Wholes.{whole_shown}
use Rattle.permit_sql.proofs.Offices.{laid, rule_of}
use Rattle.permit_sql.proofs.WholeMeanings.{read_in, each_interest_query, each_interest_text, each_file_query, each_file_text}
use Rattle.permit_sql.proofs.WholeMeanings.{each_paper_query, each_paper_text, each_rowid_query, each_rowid_text}
use Rattle.permit_sql.proofs.Shaped.{keyed_rows, paired_rows}
use Rattle.permit_sql.proofs.Taking.{in_tree, map_itself}
use Rattle.permit_sql.proofs.Checks.{with_null}

-- ---- what was taken

abbrev pub interest_took : Interests → Row → Interests → Bool → Type 0
interest_took a row b good = MatchBool good (TakesInterest row) (RefusesInterest row)

took_interests : (rows : List Row) (a b : Interests) → TookAll interest_took rows a b → (xs : List Interest) × AllByRecursion IsInterest xs
    × (map (firsts 2 0) rows ≡ map shown_interest xs)
took_interests [] a b h = ([], tt, refl)
took_interests (r ∷ rows) a b h = let more = took_interests rows h.0 b h.2 in (h.1.0 ∷ more.0, (h.1.1, more.1), ap₂ ◌∷◌ h.1.2 more.2)

abbrev pub file_took : Files → Row → Files → Bool → Type 0
file_took a row b good = MatchBool good (TakesFile a.upgrade a.counts.items row b.counts.items × (b.upgrade ≡ a.upgrade))
    (RefusesFile a.upgrade a.counts.items row b.lacks_memory)

long_more : (xs : List ℕ) (x : ℕ) → length (xs ++ x ∷ []) ≡ suc (length xs)
long_more [] x = refl
long_more (y ∷ xs) x = ap suc (long_more xs x)

took_files : (rows : List Row) (a b : Files) → TookAll file_took rows a b
    → (xs : List FileRow) × AllByRecursion (IsGoodFile a.upgrade) xs × IsNumbered (λ f. f.id) (suc (length a.counts.items)) xs
    × (b.counts.items ≡ a.counts.items ++ map (λ f. f.state.papers) xs) × (map (firsts 20 0) rows ≡ map shown_file xs)
took_files [] a b h = ([], tt, tt, ap (λ (t : Files). t.counts.items) h ∙ sym (append-nil a.counts.items), refl)
took_files (r ∷ rows) a b h =
    let it = h.1.0 in
    let more = took_files rows h.0 b h.2 in
    let next : length h.0.counts.items ≡ suc (length a.counts.items) = ap length it.4 ∙ long_more a.counts.items it.0.state.papers in (
      it.0 ∷ more.0,
      (it.1, subst (λ u. AllByRecursion (IsGoodFile u) more.0) h.1.1 more.1),
      (it.3, subst (λ n. IsNumbered (λ (f : FileRow). f.id) (suc n) more.0) next more.2),
      more.3 ∙ ap (λ l. l ++ map (λ (f : FileRow). f.state.papers) more.0) it.4
          ∙ append_assoc a.counts.items (it.0.state.papers ∷ []) (map (λ (f : FileRow). f.state.papers) more.0),
      ap₂ ◌∷◌ it.2 more.4,
    )

abbrev pub paper_took : Papers → Row → Papers → Bool → Type 0
paper_took a row b good = MatchBool good (TakesPaper a.counts.items a.file a.number row b.file b.number × (b.counts.items ≡ a.counts.items))
    (RefusesPaper a.counts.items a.file a.number row b.lacks_memory)

took_papers : (rows : List Row) (a b : Papers) (counts : List ℕ) → a.counts.items ≡ counts → TookAll paper_took rows a b
    → (xs : List Paper) × AllByRecursion IsPaper xs × IsRising a.file a.number xs × AllByRecursion (λ p. p.number ≤ counted_in counts p.file) xs
    × (map (firsts 9 0) rows ≡ map shown_paper xs)
took_papers [] a b counts has h = ([], tt, tt, tt, refl)
took_papers (r ∷ rows) a b counts has h =
    let it = h.1.0 in
    let p = it.0 in
    let more = took_papers rows h.0 b counts (h.1.1 ∙ has) h.2 in
    let up : IsLater a.file a.number p.file p.number = subst (λ n. IsLater a.file a.number p.file n) (sym it.4)
    (subst (λ f. IsLater a.file a.number f h.0.number) (sym it.3) it.5) in
    let on : IsRising p.file p.number more.0 = subst (λ n. IsRising p.file n more.0) (sym it.4) (subst (λ f. IsRising f h.0.number more.0) (sym it.3) more.2) in
    let low : p.number ≤ counted_in counts p.file = subst (λ n. n ≤ counted_in counts p.file) (sym it.4)
    (subst (λ f. h.0.number ≤ counted_in counts f) (sym it.3) (subst (λ c. h.0.number ≤ counted_in c h.0.file) has it.6)) in
    (p ∷ more.0, (it.1, more.1), (up, on), (low, more.3), ap₂ ◌∷◌ it.2 more.4)

abbrev pub rowid_took : Rowids → Row → Rowids → Bool → Type 0
rowid_took a row b good = MatchBool good (TakesRowid a.last row b.last) (RefusesRowid a.last row b.is_strange)

abbrev Above : Option ℤ → List Row → Type 0
Above last [] = ⊤
Above last (r ∷ rows) = (id : ℤ) × (column r 0 ≡ Int id) × IfSome last (λ l. l <ℤ id) × Above (Some id) rows

took_rowids : (rows : List Row) (a b : Rowids) → TookAll rowid_took rows a b → Above a.last rows
took_rowids [] a b h = tt
took_rowids (r ∷ rows) a b h = (h.1.0, h.1.1, h.1.2, subst (λ l. Above l rows) h.1.3 (took_rowids rows h.0 b h.2))

less_of : (a b : ℤ) → a <ℤ b → int_cmp a b ≡ Less
less_of a b low = sym (int_cmp_is a b Less low)

lower : (a b c : ℤ) → a <ℤ b → b <ℤ c → a <ℤ c
lower a b c h k = subst (λ r. MatchOrdering r (a <ℤ c) (a ≡ c) (c <ℤ a)) (int_cmp_total.trans a b c (less_of a b h) (less_of b c k)) (int_ranks a c)

module _ (id : ℤ) where
  abbrev is_it : Row → Bool
  is_it q = is_eq (value_cmp (column q 0) (Int id))

  same_id : (z : ℤ) (q : Row) → column q 0 ≡ Int z → is_it q ≡ true → z ≡ id
  same_id z q is h =
      let e : is_eq (int_cmp z id) ≡ true = ap is_eq (sym (value_cmp-Int z id) ∙ ap (λ v. value_cmp v (Int id)) (sym is)) ∙ h in
      subst (λ r. MatchOrdering r (z <ℤ id) (z ≡ id) (id <ℤ z)) ((Equal-is (int_cmp z id)).0 e) (int_ranks z id)

  none_above : (l : ℤ) (rows : List Row) → (id ≡ l) ⊎ (id <ℤ l) → Above (Some l) rows → filter is_it rows ≡ []
  none_above l [] low h = refl
  none_above l (r ∷ rows) low h =
      let past : id <ℤ h.0 = below l h.0 low h.2 in
      elim (cases_Bool (is_it r)) [
        | inl same ↦ absurd (<ℤ_irrefl (subst (λ z. id <ℤ z) (same_id h.0 r h.1 same) past))
        | inr other ↦ rw other (none_above h.0 rows (inr past) h.3)
      ]
    where
      below : (l z : ℤ) → (id ≡ l) ⊎ (id <ℤ l) → l <ℤ z → id <ℤ z
      below l z (inl e) up = subst (λ x. x <ℤ z) (sym e) up
      below l z (inr low) up = lower id l z low up

  once_above : (o : Option ℤ) (rows : List Row) → Above o rows → length (filter is_it rows) ≤ 1
  once_above o [] h = omega arith
  once_above o (r ∷ rows) h = elim (cases_Bool (is_it r)) [
    | inl same ↦
        let none = none_above h.0 rows (inl (sym (same_id h.0 r h.1 same))) h.3 in
        rw (same, none) (omega arith)
    | inr other ↦ rw other (once_above (Some h.0) rows h.3)
  ]

long_map : {A B : Type 0} (f : A → B) (xs : List A) → length (map f xs) ≡ length xs
long_map f [] = refl
long_map f (x ∷ xs) = ap suc (long_map f xs)

abbrev file_columns : List Column
file_columns = drop 1 file_table.columns

module _ (edition : Edition) {S : Type 0} (g : Ghosts S) (old new : Held S) (office : IsOffice edition (state g old).now.schema) where
  abbrev schema : Schema
  schema = laid edition (state g old).now.schema office

  -- a database that is the same has the same schema
  still : (db : Database) → db ≡ (state g old).now → IsOffice edition db.schema
  still db same = subst (λ (d : Database). IsOffice edition d.schema) (sym same) office

  pub interests_are : (a b : Interests) → TookTable interest_took g EACH_INTEREST.now old new a b → HasInterests ((state g old).now.trees 5)
  interests_are a b took =
      let was = state g took.1 in
      let now = (state g old).now in
      let read = read_in edition EACH_INTEREST.now each_interest_query (each_interest_text edition) was (state g new) (still was.now took.2) took.0 took.4 in
      let seen = whole_shown 5 each_interest_query.project each_interest_query.order (overlay was.now.trees []) took.0 (read.answer Null) in
      let here = subst (λ (d : Database). IsPermutation (map (λ r. firsts 2 1 r) (d.trees 5)) took.0) took.2 seen in
      let taken = took_interests took.0 a b took.5 in
      let typed = rule_of edition now office took.3 Datatype in
      let there = rule_of edition now office took.3 NotNull in
      let whole = paired_rows schema now.trees interest_table interest_table.columns refl refl (refl, (refl, tt)) (omega arith)
      (now.trees 5) typed.1.1.1.0 there.1.1.1.0 in
      record {
        all = taken.0;
        good = taken.1;
        here = in_tree 2 shown_interest shown_interest (λ r. firsts 2 1 r) (λ q. q) (drop 1) (λ r. refl) (λ p. refl)
            (now.trees 5) took.0 taken.0 here taken.2 whole;
      }

  pub files_are : (a b : Files) → a.counts.items ≡ [] → TookTable file_took g EACH_FILE.now old new a b → HasFiles a.upgrade b.counts.items ((state g old).now.trees 7)
  files_are a b none took =
      let was = state g took.1 in
      let now = (state g old).now in
      let read = read_in edition EACH_FILE.now each_file_query (each_file_text edition) was (state g new) (still was.now took.2) took.0 took.4 in
      let seen = whole_shown 7 each_file_query.project each_file_query.order (overlay was.now.trees []) took.0 (read.answer Null) in
      let here = subst (λ (d : Database). IsPermutation (map (λ r. column r 0 ∷ firsts 19 2 r) (d.trees 7)) took.0) took.2 seen in
      let taken = took_files took.0 a b took.5 in
      let typed = rule_of edition now office took.3 Datatype in
      let there = rule_of edition now office took.3 NotNull in
      let whole = keyed_rows schema now.trees file_table key_column file_columns refl refl
      (refl, (refl, (refl, (refl, (refl, (refl, (refl, (refl, (refl, (refl, (refl, (refl, (refl, (refl, (refl, (refl, (refl, (refl, (refl, tt)))))))))))))))))))
      (omega arith) (now.trees 7) typed.1.1.1.1.0 there.1.1.1.1.0 in
      let inside = in_tree 20 shown_file file_row (λ r. column r 0 ∷ firsts 19 2 r) with_null (λ r. r) (λ r. refl) (λ p. refl)
      (now.trees 7) took.0 taken.0 here taken.4 whole in
      record {
        all = taken.0;
        good = taken.1;
        numbered = subst (λ n. IsNumbered (λ (f : FileRow). f.id) (suc n) taken.0) (ap length none) taken.2;
        counted = sym (taken.3 ∙ ap (λ l. l ++ map (λ (f : FileRow). f.state.papers) taken.0) none);
        here = subst (IsPermutation (map file_row taken.0)) (map_itself (now.trees 7)) inside;
      }

  pub papers_are : (a b : Papers) → a.file ≡ 0 → a.number ≡ 0 → (counts : List ℕ) → a.counts.items ≡ counts →
      TookTable paper_took g EACH_PAPER.now old new a b → HasPapers counts ((state g old).now.trees 8)
  papers_are a b no_file no_number counts has took =
      let was = state g took.1 in
      let now = (state g old).now in
      let read = read_in edition EACH_PAPER.now each_paper_query (each_paper_text edition) was (state g new) (still was.now took.2) took.0 took.4 in
      let seen = whole_shown 8 each_paper_query.project each_paper_query.order (overlay was.now.trees []) took.0 (read.answer Null) in
      let here = subst (λ (d : Database). IsPermutation (map (λ r. firsts 9 1 r) (d.trees 8)) took.0) took.2 seen in
      let taken = took_papers took.0 a b counts has took.5 in
      let typed = rule_of edition now office took.3 Datatype in
      let there = rule_of edition now office took.3 NotNull in
      let whole = paired_rows schema now.trees paper_table paper_table.columns refl refl
      (refl, (refl, (refl, (refl, (refl, (refl, (refl, (refl, (refl, tt))))))))) (omega arith) (now.trees 8) typed.1.1.1.1.1.0 there.1.1.1.1.1.0 in
      record {
        all = taken.0;
        good = taken.1;
        rising = subst (λ n. IsRising 0 n taken.0) no_number (subst (λ f. IsRising f a.number taken.0) no_file taken.2);
        counted = taken.3;
        here = in_tree 9 shown_paper shown_paper (λ r. firsts 9 1 r) (λ q. q) (drop 1) (λ r. refl) (λ p. refl) (now.trees 8) took.0 taken.0 here taken.4 whole;
      }

  pub rowids_are : (a b : Rowids) → TookTable rowid_took g EACH_ROWID.now old new a b → IsApart ((state g old).now.trees 8)
  rowids_are a b took = λ id.
      let was = state g took.1 in
      let now = (state g old).now in
      let read = read_in edition EACH_ROWID.now each_rowid_query (each_rowid_text edition) was (state g new) (still was.now took.2) took.0 took.4 in
      let seen = whole_shown 8 each_rowid_query.project each_rowid_query.order (overlay was.now.trees []) took.0 (read.answer Null) in
      let here = subst (λ (d : Database). IsPermutation (map (λ r. column r 0 ∷ []) (d.trees 8)) took.0) took.2 seen in
      let once = once_above id a.last took.0 (took_rowids took.0 a b took.5) in
      let same = length_permutation _ _ (IsPermutation-filter (is_it id) _ _ here) in
      let moved : filter (is_it id) (map (λ r. column r 0 ∷ []) (now.trees 8)) ≡ map (λ r. column r 0 ∷ []) (filter (has_rowid id) (now.trees 8)) =
      filter-map (is_it id) (λ r. column r 0 ∷ []) (now.trees 8) in
      let long : length (filter (has_rowid id) (now.trees 8)) ≡ length (filter (is_it id) took.0) =
      sym (long_map (λ r. column r 0 ∷ []) (filter (has_rowid id) (now.trees 8))) ∙ ap length (sym moved) ∙ sym same in
      omega (arith, long, once)
