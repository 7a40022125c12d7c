-- What the texts that read all interests, papers and rowids show of typed tables.
use Rattle.std.proofs.Common.{◌≡◌, inl, inr, ℕ, ℤ, pos, ◌<◌, ◌≤◌, ◌<ℤ◌, Bool, true, false, cond, eqb, List, [], ◌∷◌, map, filter, drop, length, refl, sym, ap}
use Rattle.std.proofs.Common.{ap₂, subst, ◌∙◌, arith, IsPermutation, Ordering, Less, Equal, Greater, is_eq, true≢false}
use Rattle.std.specs.Prelude.{⊤}
use Rattle.std.specs.List.{flat_map, AllByRecursion}
use Rattle.std.specs.Ordering.{int_cmp, MatchOrdering, ordering_then, ordering_reverse}
use Rattle.std.specs.Cmp.{int_ranks}
use Rattle.std.proofs.lemmas.Bool.{cases_Bool}
use Rattle.std.proofs.lemmas.Bool.Decides.{nat_tests}
use Rattle.std.proofs.lemmas.Int.{ints}
use Rattle.std.proofs.lemmas.List.Sorted.{IsPermutation-map, IsPermutation-trans}
use Rattle.sqlite.specs.declared.types.Value.{Value}
use Rattle.sqlite.specs.declared.types.Value.TheVariants.{Null, Int}
use Rattle.sqlite_value.specs.Order.{Row, column, value_cmp}
use Rattle.sqlite_value.proofs.OrderLemmas.{value_cmp-Int, value_cmp_total, then-Equal}
use Rattle.sqlite_sql.specs.Query.{Output, output, output_cmp}
use Rattle.sqlite_sql.specs.Program.{overlay}
use Rattle.sqlite_sql.proofs.QueryLemmas.{output_cmp_total}
use Rattle.sqlite_trees.specs.Tree.{IsAscending, has_rowid}
use Rattle.sqlite_trees.proofs.ListLemmas.{all-permutation}
use Rattle.sqlite_keyed.proofs.ListLemmas.{map-map, map_same, all_kept, filter-map, filter_same}
use Rattle.sqlite.specs.State.{State, Shown}
use Rattle.permit_base.specs.declared.words.Edition.{Edition}
use Rattle.permit_model.specs.Parcels.{Interest}
use Rattle.permit_model.specs.Tables.{Tables, Paper}
use Rattle.permit_sql_rows.specs.Rows.{int, shown_interest, shown_paper}
use Rattle.permit_sql_rows.specs.Kept.{KeepsUnder, papers_counted}
use Rattle.permit_sql_rows.specs.Typed.{firsts, IsInterest, IsPaper}
use Rattle.permit_sql.specs.Found.{AreTyped, IsLater, IsRising, counted_in}
use Rattle.permit_sql.specs.declared.texts.TheConstants.{EACH_INTEREST, EACH_PAPER, EACH_ROWID}
use Rattle.permit_sql_statements.proofs.Lookups.{answers}
use Rattle.permit_sql_statements.proofs.Permuted.{no_more}
use Rattle.permit_sql_statements.proofs.Selecting.{unmapped}
use Rattle.permit_sql.proofs.Opened.{counts_of}
use Rattle.permit_sql_statements.proofs.Wholes.{whole_shown, interests_among}
use Rattle.permit_sql.proofs.Answered.{each_one}
use Rattle.permit_sql.proofs.Neighbours.{First, Adjacent, one_passes, climbs, all_of_form, long_map}
use Rattle.permit_sql.proofs.WholeMeanings.{read_in, each_interest_query, each_interest_text, each_paper_query, each_paper_text, each_rowid_query, each_rowid_text}

-- ---- the order of papers

abbrev paper_out : Paper → Output
paper_out p = (int p.file ∷ int p.number ∷ [], shown_paper p)

abbrev paper_cmp : Output → Output → Ordering
paper_cmp = output_cmp each_paper_query

pair_cmp_is : (a b : Paper) → paper_cmp (paper_out a) (paper_out b) ≡ ordering_then (int_cmp (pos a.file) (pos b.file))
    (ordering_then (int_cmp (pos a.number) (pos b.number)) Equal)
pair_cmp_is a b =
    let file = value_cmp-Int (pos a.file) (pos b.file) in
    let number = value_cmp-Int (pos a.number) (pos b.number) in
    ap₂ (λ o r. ordering_then o (ordering_then r Equal)) file number

below : (a b : ℕ) → pos a <ℤ pos b → a < b
below a b h = omega (arith, ints)

pair_less : (f n g m : ℕ) → ordering_then (int_cmp (pos f) (pos g)) (ordering_then (int_cmp (pos n) (pos m)) Equal) ≡ Less → IsLater f n g m
pair_less f n g m h = go (int_cmp (pos f) (pos g)) (int_cmp (pos n) (pos m)) (int_ranks (pos f) (pos g)) (int_ranks (pos n) (pos m)) h
  where
    go : (a b : Ordering) → MatchOrdering a (pos f <ℤ pos g) (pos f ≡ pos g) (pos g <ℤ pos f) →
        MatchOrdering b (pos n <ℤ pos m) (pos n ≡ pos m) (pos m <ℤ pos n) → ordering_then a (ordering_then b Equal) ≡ Less → IsLater f n g m
    go Less b p q h = inr (below f g p)
    go Equal Less p q h = inl (let e : f ≡ g = cc in sym e, below n m q)
    go Equal Equal p q h = absurd cc
    go Equal Greater p q h = absurd cc
    go Greater b p q h = absurd cc

pair_equal : (f n g m : ℕ) → is_eq (ordering_then (int_cmp (pos f) (pos g)) (ordering_then (int_cmp (pos n) (pos m)) Equal)) ≡ true → (f ≡ g) × (n ≡ m)
pair_equal f n g m h = go (int_cmp (pos f) (pos g)) (int_cmp (pos n) (pos m)) (int_ranks (pos f) (pos g)) (int_ranks (pos n) (pos m)) h
  where
    go : (a b : Ordering) → MatchOrdering a (pos f <ℤ pos g) (pos f ≡ pos g) (pos g <ℤ pos f) →
        MatchOrdering b (pos n <ℤ pos m) (pos n ≡ pos m) (pos m <ℤ pos n) → is_eq (ordering_then a (ordering_then b Equal)) ≡ true → (f ≡ g) × (n ≡ m)
    go Less b p q h = absurd (true≢false (sym h))
    go Equal Less p q h = absurd (true≢false (sym h))
    go Equal Equal p q h = (cc, cc)
    go Equal Greater p q h = absurd (true≢false (sym h))
    go Greater b p q h = absurd (true≢false (sym h))

-- a later paper of a file has a higher number
abbrev RisesInFile : Paper → Paper → Type 0
RisesInFile a b = eqb b.file a.file ≡ true → a.number < b.number

-- what holds of each file's papers
by_file : (P : ℕ → Paper → Type 0) (ps : List Paper) → ((file : ℕ) → AllByRecursion (P file) (filter (λ p. eqb p.file file) ps)) →
    AllByRecursion (λ p. P p.file p) ps
by_file P [] h = tt
by_file P (p ∷ ps) h =
    let same : eqb p.file p.file ≡ true = grind (arith, nat_tests) in
    let here : AllByRecursion (P p.file) (p ∷ filter (λ q. eqb q.file p.file) ps) = rw same at (h p.file) in
    (here.0, by_file P ps (λ file. rest file (eqb p.file file) (h file)))
  where
    rest : (file : ℕ) (b : Bool) → AllByRecursion (P file) (cond b (p ∷ filter (λ q. eqb q.file file) ps) (filter (λ q. eqb q.file file) ps)) →
        AllByRecursion (P file) (filter (λ q. eqb q.file file) ps)
    rest file true h = h.1
    rest file false h = h

rises_in_files : (ps : List Paper) → ((file : ℕ) → IsAscending (λ a b. a.number < b.number) (filter (λ p. eqb p.file file) ps)) → IsAscending RisesInFile ps
rises_in_files [] h = tt
rises_in_files (p ∷ ps) h =
    let same : eqb p.file p.file ≡ true = grind (arith, nat_tests) in
    let here : IsAscending (λ a b. a.number < b.number) (p ∷ filter (λ q. eqb q.file p.file) ps) = rw same at (h p.file) in
    (all_kept (λ q. p.number < q.number) (λ q. eqb q.file p.file) ps here.0, rises_in_files ps (λ file. rest file (eqb p.file file) (h file)))
  where
    rest : (file : ℕ) (b : Bool) → IsAscending (λ a b. a.number < b.number) (cond b (p ∷ filter (λ q. eqb q.file file) ps) (filter (λ q. eqb q.file file) ps)) →
        IsAscending (λ a b. a.number < b.number) (filter (λ q. eqb q.file file) ps)
    rest file true h = h.1
    rest file false h = h

-- no two papers have one place in the order
papers_apart : (z : Paper) (ps : List Paper) → IsAscending RisesInFile ps → length (filter (λ b. is_eq (paper_cmp (paper_out z) b)) (map paper_out ps)) ≤ 1
papers_apart z ps up =
    let once = one_passes (λ p. is_eq (paper_cmp (paper_out z) (paper_out p))) RisesInFile apart ps up in
    let moved = filter-map (λ b. is_eq (paper_cmp (paper_out z) b)) paper_out ps in
    let long = ap length moved ∙ long_map paper_out (filter (λ p. is_eq (paper_cmp (paper_out z) (paper_out p))) ps) in
    subst (λ n. n ≤ 1) (sym long) once
  where
    place : (p : Paper) → is_eq (paper_cmp (paper_out z) (paper_out p)) ≡ true → (z.file ≡ p.file) × (z.number ≡ p.number)
    place p h = pair_equal z.file z.number p.file p.number (ap is_eq (sym (pair_cmp_is z p)) ∙ h)

    apart : (x y : Paper) → is_eq (paper_cmp (paper_out z) (paper_out x)) ≡ true → RisesInFile x y → is_eq (paper_cmp (paper_out z) (paper_out y)) ≡ false
    apart x y is up = elim (cases_Bool (is_eq (paper_cmp (paper_out z) (paper_out y)))) [
      | inl same ↦
          let a = place x is in
          let b = place y same in
          let file : y.file ≡ x.file = sym b.0 ∙ a.0 in
          let one : eqb y.file x.file ≡ true = grind (arith, nat_tests) in
          let low = up one in
          let number : x.number ≡ y.number = sym a.1 ∙ b.1 in
          absurd (omega (arith, low, number))
      | inr other ↦ other
    ]

rising_from : (file number : ℕ) (ps : List Paper) → First (λ p. IsLater file number p.file p.number) ps →
    Adjacent (λ a b. IsLater a.file a.number b.file b.number) ps → IsRising file number ps
rising_from file number [] first next = tt
rising_from file number (p ∷ ps) first next = (first, rising_from p.file p.number ps next.0 next.1)

adjacent_papers : (ps : List Paper) → Adjacent (λ a b. (z : Paper) × (a ≡ paper_out z) → paper_cmp a b ≡ Less) (map paper_out ps) →
    Adjacent (λ a b. IsLater a.file a.number b.file b.number) ps
adjacent_papers [] h = tt
adjacent_papers (p ∷ []) h = (tt, tt)
adjacent_papers (p ∷ q ∷ ps) h = (pair_less p.file p.number q.file q.number (sym (pair_cmp_is p q) ∙ h.0 (p, refl)), adjacent_papers (q ∷ ps) h.1)

module _ (counts : List ℕ) where
  abbrev IsFit : Paper → Type 0
  IsFit p = IsPaper p × (p.number ≤ counted_in counts p.file)

  fit_first : (ps : List Paper) → AllByRecursion IsFit ps → First (λ p. IsLater 0 0 p.file p.number) ps
  fit_first [] h = tt
  fit_first (p ∷ ps) h = inr h.0.0.file.0

  parts : (ps : List Paper) → AllByRecursion IsFit ps → AllByRecursion IsPaper ps × AllByRecursion (λ p. p.number ≤ counted_in counts p.file) ps
  parts [] h = (tt, tt)
  parts (p ∷ ps) h = let more = parts ps h.1 in ((h.0.0, more.0), (h.0.1, more.1))

  joined : (ps : List Paper) → AllByRecursion IsPaper ps → AllByRecursion (λ p. (1 ≤ p.file) → p.number ≤ counted_in counts p.file) ps → AllByRecursion IsFit ps
  joined [] good low = tt
  joined (p ∷ ps) good low = ((good.0, low.0 good.0.file.0), joined ps good.1 low.1)

-- ---- the order of rowids

abbrev value_out : Value → Output
value_out v = (v ∷ [], v ∷ [])

abbrev rowid_cmp : Output → Output → Ordering
rowid_cmp = output_cmp each_rowid_query

-- the second number is above the first
abbrev pub AreUp : Value → Value → Type 0
AreUp v w = (l id : ℤ) → v ≡ Int l → w ≡ Int id → l <ℤ id

abbrev IsWhole : Output → Type 0
IsWhole a = (l : ℤ) × (a.0 ≡ Int l ∷ [])

turned : (o : Ordering) → is_eq (ordering_reverse o) ≡ is_eq o
turned Less = refl
turned Equal = refl
turned Greater = refl

same_rowid : (a : Output) (l : ℤ) (r : Row) → a.0 ≡ Int l ∷ [] → is_eq (rowid_cmp a (value_out (column r 0))) ≡ has_rowid l r
same_rowid a l r is =
    let first : column a.0 0 ≡ Int l = ap (λ x. column x 0) is in
    ap is_eq (then-Equal (value_cmp (column a.0 0) (column r 0))) ∙ ap (λ v. is_eq (value_cmp v (column r 0))) first
    ∙ ap is_eq (value_cmp_total.antisymm (Int l) (column r 0)) ∙ turned (value_cmp (column r 0) (Int l))

rowids_apart : (a : Output) (l : ℤ) (rows : List Row) → a.0 ≡ Int l ∷ [] → length (filter (has_rowid l) rows) ≤ 1 →
    length (filter (λ b. is_eq (rowid_cmp a b)) (map (λ r. value_out (column r 0)) rows)) ≤ 1
rowids_apart a l rows is once =
    let moved = filter-map (λ b. is_eq (rowid_cmp a b)) (λ (r : Row). value_out (column r 0)) rows in
    let same = filter_same (λ r. is_eq (rowid_cmp a (value_out (column r 0)))) (has_rowid l) (λ r. same_rowid a l r is) rows in
    let long = ap length moved ∙ long_map (λ (r : Row). value_out (column r 0)) (filter (λ r. is_eq (rowid_cmp a (value_out (column r 0)))) rows)
    ∙ ap length same in
    subst (λ n. n ≤ 1) (sym long) once

adjacent_values : (vs : List Value) → Adjacent (λ a b. IsWhole a → rowid_cmp a b ≡ Less) (map value_out vs) → Adjacent AreUp vs
adjacent_values [] h = tt
adjacent_values (v ∷ []) h = (tt, tt)
adjacent_values (v ∷ w ∷ vs) h = (up, adjacent_values (w ∷ vs) h.1)
  where
    up : AreUp v w
    up l id is was =
        let less : value_cmp v w ≡ Less = sym (then-Equal (value_cmp v w)) ∙ h.0 (l, ap (λ x. x ∷ []) is) in
        let e : int_cmp l id ≡ Less = sym (value_cmp-Int l id) ∙ sym (ap₂ value_cmp is was) ∙ less in
        subst (λ r. MatchOrdering r (l <ℤ id) (l ≡ id) (id <ℤ l)) e (int_ranks l id)

-- ---- the answers

module _ (edition : Edition) (old new : State) (t : Tables) (typed : AreTyped t) (k : KeepsUnder edition t old.now) (rows : List Row) where
  pub interests_shown : Shown EACH_INTEREST.now [] old new rows → (xs : List Interest) × (rows ≡ map shown_interest xs) × AllByRecursion IsInterest xs
      × IsPermutation t.interests xs
  interests_shown h =
      let read = read_in edition EACH_INTEREST.now each_interest_query (each_interest_text edition) old new k.schema rows h in
      let seen : IsPermutation (map (λ r. firsts 2 1 r) (old.now.trees 5)) rows =
      whole_shown 5 each_interest_query.project each_interest_query.order (overlay old.now.trees []) rows (read.answer Null) in
      let it = interests_among t.interests (old.now.trees 5) rows k.rows.interests seen in
      (it.0, it.1, all-permutation IsInterest t.interests it.0 it.2 typed.interests, it.2)

  pub papers_shown : Shown EACH_PAPER.now [] old new rows → let counts = map (λ f. f.state.papers) t.files in
      (xs : List Paper) × (rows ≡ map shown_paper xs) × AllByRecursion IsPaper xs × IsRising 0 0 xs
      × AllByRecursion (λ p. p.number ≤ counted_in counts p.file) xs × IsPermutation t.papers xs
  papers_shown h =
      let q = each_paper_query in
      let db = overlay old.now.trees [] in
      let counts = map (λ (f : Rattle.permit_model.specs.Tables.FileRow). f.state.papers) t.files in
      let read = read_in edition EACH_PAPER.now each_paper_query (each_paper_text edition) old new k.schema rows h in
      let got = answers q.from q.filter q.project q.order db [] rows (read.answer Null) in
      let over : map (output q) (flat_map (λ r. ([] ∷ r ∷ []) ∷ []) (old.now.trees 8))
      ≡ map (λ c. output q ([] ∷ (Null ∷ c) ∷ [])) (map (drop 1) (old.now.trees 8)) =
      each_one q (old.now.trees 8) ∙ map_same _ (λ r. output q ([] ∷ (Null ∷ drop 1 r) ∷ [])) cut (old.now.trees 8)
      ∙ sym (map-map (λ c. output q ([] ∷ (Null ∷ c) ∷ [])) (drop 1) (old.now.trees 8)) in
      let moved = IsPermutation-map (λ c. output q ([] ∷ (Null ∷ c) ∷ [])) _ _ k.rows.papers in
      let plain : map (λ c. output q ([] ∷ (Null ∷ c) ∷ [])) (map shown_paper t.papers) ≡ map paper_out t.papers =
      map-map (λ c. output q ([] ∷ (Null ∷ c) ∷ [])) shown_paper _ ∙ map_same _ paper_out (λ p. refl) _ in
      let there = subst (λ l. IsPermutation l (map (λ c. output q ([] ∷ (Null ∷ c) ∷ [])) (map (drop 1) (old.now.trees 8)))) plain moved in
      let same : IsPermutation (map paper_out t.papers) got.0 = IsPermutation-trans _ _ _ there (subst (λ l. IsPermutation l got.0) over got.1) in
      let up = rises_in_files t.papers k.keyed.papers in
      let low = by_file (λ file p. 1 ≤ file → p.number ≤ counted_in counts file) t.papers
      (λ file. counted file (filter (λ p. eqb p.file file) t.papers) (k.keyed.counted file)) in
      let fit = joined counts t.papers typed.papers low in
      let same_papers = unmapped paper_out t.papers got.0 same in
      let xs = same_papers.0 in
      let fits = all-permutation (IsFit counts) t.papers xs same_papers.1 fit in
      let apart = λ (a : Output) (keyed : (z : Paper) × (a ≡ paper_out z)). no_more (λ b. is_eq (paper_cmp a b)) _ got.0 same
      (subst (λ o. length (filter (λ b. is_eq (paper_cmp o b)) (map paper_out t.papers)) ≤ 1) (sym keyed.1) (papers_apart keyed.0 t.papers up)) in
      let next = adjacent_papers xs (subst (Adjacent (λ a b. (z : Paper) × (a ≡ paper_out z) → paper_cmp a b ≡ Less)) same_papers.2
      (climbs paper_cmp (output_cmp_total q) (λ a. (z : Paper) × (a ≡ paper_out z)) got.0 got.2 apart)) in
      let good = parts counts xs fits in (
        xs,
        got.3 ∙ ap (map (λ (o : Output). o.1)) same_papers.2 ∙ map-map (λ (o : Output). o.1) paper_out xs,
        good.0,
        rising_from 0 0 xs (fit_first counts xs fits) next,
        good.1,
        same_papers.1,
      )
    where
      cut : (r : Row) → output each_paper_query ([] ∷ r ∷ []) ≡ output each_paper_query ([] ∷ (Null ∷ drop 1 r) ∷ [])
      cut [] = refl
      cut (x ∷ r) = refl

      counted : (file : ℕ) (ps : List Paper) → AllByRecursion (λ p. p.number ≤ papers_counted file t.files) ps →
          AllByRecursion (λ p. 1 ≤ file → p.number ≤ counted_in (map (λ f. f.state.papers) t.files) file) ps
      counted file [] h = tt
      counted file (p ∷ ps) h = (λ some. subst (λ n. p.number ≤ n) (counts_of t.files typed.file_numbers file some) h.0, counted file ps h.1)

  pub rowids_shown : Shown EACH_ROWID.now [] old new rows → (vs : List Value) × (rows ≡ map (λ v. v ∷ []) vs) × Adjacent AreUp vs
  rowids_shown h =
      let q = each_rowid_query in
      let read = read_in edition EACH_ROWID.now each_rowid_query (each_rowid_text edition) old new k.schema rows h in
      let got = answers q.from q.filter q.project q.order (overlay old.now.trees []) [] rows (read.answer Null) in
      let same : IsPermutation (map (λ r. value_out (column r 0)) (old.now.trees 8)) got.0 =
      subst (λ l. IsPermutation l got.0) (each_one q (old.now.trees 8)) got.1 in
      let form = all_of_form value_out (λ v. ⊤) got.0 (all-permutation _ _ got.0 same (outs (old.now.trees 8))) in
      let apart = λ (a : Output) (whole : IsWhole a). no_more (λ b. is_eq (rowid_cmp a b)) _ got.0 same
      (rowids_apart a whole.0 (old.now.trees 8) whole.1 (k.rows.apart whole.0)) in
      let next = adjacent_values form.0 (subst (Adjacent (λ a b. IsWhole a → rowid_cmp a b ≡ Less)) form.1
      (climbs rowid_cmp (output_cmp_total q) IsWhole got.0 got.2 apart)) in
      (form.0, got.3 ∙ ap (map (λ (o : Output). o.1)) form.1 ∙ map-map (λ (o : Output). o.1) value_out form.0, next)
    where
      outs : (rs : List Row) → AllByRecursion (λ o. (v : Value) × (o ≡ value_out v) × ⊤) (map (λ r. value_out (column r 0)) rs)
      outs [] = tt
      outs (r ∷ rs) = ((column r 0, refl, tt), outs rs)
