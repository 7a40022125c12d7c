-- No row of typed tables is refused but for want of memory.
use Rattle.std.proofs.Common.{◌≡◌, ◌⊎◌, inl, inr, ℕ, ℤ, suc, ◌+◌, ◌≤◌, Bool, true, false, Some, None, List, [], ◌∷◌, ◌++◌, map, length, refl, sym, ap, subst}
use Rattle.std.proofs.Common.{◌∙◌, arith, append-nil, append_assoc, true≢false}
use Rattle.std.specs.Prelude.{IsTrue}
use Rattle.std.specs.List.{AllByRecursion}
use Rattle.std.specs.Int.Signed.{clash_ℤ}
use Rattle.sqlite.specs.declared.types.Value.{Value}
use Rattle.sqlite.specs.declared.types.Value.TheVariants.{Int}
use Rattle.sqlite_value.specs.Order.{Row, column}
use Rattle.sqlite_sql.specs.Query.{Query}
use Rattle.sqlite_trees.specs.declared.store.Store.{Ghosts}
use Rattle.sqlite.specs.Effect.{Database}
use Rattle.sqlite.specs.Clock.{timed}
use Rattle.sqlite.specs.State.{State, IsUnchanged, Shown, Begins}
use Rattle.sqlite.specs.Held.{Held, state}
use Rattle.sqlite.proofs.Callers.{command_of, EndsIn, begins_shown}
use Rattle.permit_base.specs.declared.words.Edition.{Edition}
use Rattle.permit_model.specs.Caller.{Party}
use Rattle.permit_model.specs.Parcels.{Parcel, Interest}
use Rattle.permit_model.specs.Tables.{Tables, FileRow, Paper}
use Rattle.permit_sql_rows.specs.Rows.{int, shown_party, shown_parcel, shown_file, shown_interest, shown_paper}
use Rattle.permit_sql_rows.specs.Kept.{KeepsUnder, IsNamed}
use Rattle.permit_sql_rows.specs.Typed.{IsParty, IsParcel, IsInterest, IsFile, IsPaper}
use Rattle.permit_sql.specs.Taken.{TookAll, TookRows}
use Rattle.permit_sql.specs.Found.{IsNumbered, IsRising, IsGoodFile, counted_in, AreTyped}
use Rattle.permit_sql.specs.declared.typed.Numbered.{Numbered}
use Rattle.permit_sql.specs.declared.typed.Interests.{Interests}
use Rattle.permit_sql.specs.declared.typed_files.Files.{Files}
use Rattle.permit_sql.specs.declared.typed_files.Papers.{Papers}
use Rattle.permit_sql.specs.declared.typed_files.Rowids.{Rowids}
use Rattle.permit_sql.specs.declared.texts.TheConstants.{EACH_PARTY, EACH_PARCEL, EACH_INTEREST, EACH_FILE, EACH_PAPER, EACH_ROWID}
use Rattle.permit_sql.proofs.WholeMeanings.{IsText, IsTextIn, each_party_text, each_parcel_text, each_interest_text, each_file_text, each_paper_text, each_rowid_text}
use Rattle.permit_sql.proofs.Checks.{numbered_took, party_took, parcel_took}
use Rattle.permit_sql.proofs.FileChecks.{interest_took, file_took, paper_took, rowid_took}
use Rattle.permit_sql.proofs.Neighbours.{First, Adjacent}
use Rattle.permit_sql.proofs.Answered.{parties_shown, parcels_shown, files_shown}
use Rattle.permit_sql.proofs.PapersAnswered.{AreUp, interests_shown, papers_shown, rowids_shown}

-- ---- a taker over the rows of some values

module _ {X T : Type 0} (shown : X → Row) (took : T → Row → T → Bool → Type 0) (Fits : T → List X → Type 0) (IsExcused : T → Type 0)
    (next : (a b : T) (x : X) (xs : List X) → Fits a (x ∷ xs) → took a (shown x) b true → Fits b xs) where
  pub took_on : (xs : List X) (a b : T) → Fits a xs → TookAll took (map shown xs) a b → Fits b []
  took_on [] a b fits h = subst (λ t. Fits t []) (sym h) fits
  took_on (x ∷ xs) a b fits h = took_on xs h.0 b (next a h.0 x xs fits h.1) h.2

  module _ (stop : (a b : T) (x : X) (xs : List X) → Fits a (x ∷ xs) → took a (shown x) b false → IsExcused b) where
    pub stopped_in : (xs : List X) (given : List Row) (last : Row) (rest : List Row) (a mid b : T) → map shown xs ≡ given ++ last ∷ rest → Fits a xs →
        TookAll took given a mid → took mid last b false → IsExcused b
    stopped_in [] [] last rest a mid b is fits h end = absurd cc
    stopped_in [] (r ∷ given) last rest a mid b is fits h end = absurd cc
    stopped_in (x ∷ xs) [] last rest a mid b is fits h end =
        let same : last ≡ shown x = cc in
        stop a b x xs fits (subst (λ r. took a r b false) same (subst (λ m. took m last b false) h end))
    stopped_in (x ∷ xs) (r ∷ given) last rest a mid b is fits h end =
        let same : r ≡ shown x = cc in
        let more : map shown xs ≡ given ++ last ∷ rest = cc in
        stopped_in xs given last rest h.0 mid b more (next a h.0 x xs fits (subst (λ q. took a q h.0 true) same h.1)) h.2 end

-- ---- the answer that rows begin

stays : (s : State) → IsTrue s.is_open → IsUnchanged s s
stays s up = (record { was_open = up; is_open = up; now_is = refl; committed_is = refl; mode = refl }, record { changes = refl; last_rowid = refl }, refl)

whole_answer : (sql : List ℕ) (s : State) (q : Query) → IsText sql q s.now.schema → IsTrue s.is_open → (rows : List Row) → Begins sql [] s rows
    → (rest : List Row) × Shown sql [] s s (rows ++ rest)
whole_answer sql s q text up rows h =
    begins_shown sql [] s s rows h (stays s up) (λ c db it source. subst (λ k. EndsIn k db (timed [] c.formats it.now))
    (sym (ap command_of (sym it.is) ∙ text.is)) tt)

append_more : (given : List Row) (last : Row) (rest : List Row) → (given ++ last ∷ []) ++ rest ≡ given ++ last ∷ rest
append_more given last rest = append_assoc given (last ∷ []) rest

-- where the whole answer is that of some values, a taker took them all or is excused
module _ (edition : Edition) {S X T : Type 0} (g : Ghosts S) (old new : Held S) (t : Tables) (k : KeepsUnder edition t (state g old).now) (sql : List ℕ) (q : Query)
    (text : IsTextIn edition sql q)
    (shown : X → Row) (took : T → Row → T → Bool → Type 0) (Fits : T → List X → Type 0) (IsExcused : T → Type 0)
    (next : (a b : T) (x : X) (xs : List X) → Fits a (x ∷ xs) → took a (shown x) b true → Fits b xs)
    (stop : (a b : T) (x : X) (xs : List X) → Fits a (x ∷ xs) → took a (shown x) b false → IsExcused b) where
  -- it took them all, or stopped at a row that excuses it
  pub all_or_stopped : (a b : T) (all : Bool) → ((was late : State) → KeepsUnder edition t was.now → (rows : List Row) → Shown sql [] was late rows → (xs : List X)
      × (rows ≡ map shown xs) × Fits a xs)
      → TookRows took g sql [] old new a b all → ((all ≡ true) × Fits b []) ⊎ ((all ≡ false) × IsExcused b)
  all_or_stopped a b true answer h =
      let kept = subst (λ (db : Database). KeepsUnder edition t db) (sym h.2.0.now_is) k in
      let it = answer (state g h.1) (state g new) kept h.0 h.3 in
      inl (refl, took_on shown took Fits IsExcused next it.0 a b it.2 (subst (λ rows. TookAll took rows a b) it.1 h.4))
  all_or_stopped a b false answer h =
      let kept = subst (λ (db : Database). KeepsUnder edition t db) (sym h.3.0.now_is) k in
      let whole = whole_answer sql (state g h.2) q (text _ kept.schema) h.3.0.is_open (h.0 ++ h.1 ∷ []) h.4 in
      let it = answer (state g h.2) (state g h.2) kept ((h.0 ++ h.1 ∷ []) ++ whole.0) whole.1 in
      inr (refl, stopped_in shown took Fits IsExcused next stop it.0 h.0 h.1 whole.0 a h.5.0 b (sym it.1 ∙ append_more h.0 h.1 whole.0) it.2 h.5.1 h.5.2)

  pub all_or_excused : (a b : T) (all : Bool) → ((was late : State) → KeepsUnder edition t was.now → (rows : List Row) → Shown sql [] was late rows → (xs : List X)
      × (rows ≡ map shown xs) × Fits a xs)
      → TookRows took g sql [] old new a b all → (IsTrue all × Fits b []) ⊎ IsExcused b
  all_or_excused a b all answer h = elim (all_or_stopped a b all answer h) [ inl took ↦ inl took | inr stopped ↦ inr stopped.1 ]

-- ---- a taker that was not excused took all rows

pub took_every : {all excused : Bool} → IsTrue all ⊎ IsTrue excused → excused ≡ false → IsTrue all
took_every (inl it) none = it
took_every (inr lacks) none = absurd (true≢false (sym lacks ∙ none))

pub took_with : {all excused : Bool} {P : Type 0} → (IsTrue all × P) ⊎ IsTrue excused → excused ≡ false → IsTrue all × P
took_with (inl it) none = it
took_with (inr lacks) none = absurd (true≢false (sym lacks ∙ none))

-- ---- the six tables

module _ (edition : Edition) {S : Type 0} (g : Ghosts S) (old new : Held S) (t : Tables) (typed : AreTyped t) (k : KeepsUnder edition t (state g old).now) where
  -- a table of objects that are numbered
  module _ {X : Type 0} (shown : X → Row) (IsGood : X → Type 0) (number : X → ℕ) (sql : List ℕ) (q : Query)
      (text : IsTextIn edition sql q)
      (xs : List X) (count : ℕ) (good : AllByRecursion IsGood xs) (numbered : IsNumbered number 1 xs) (long : length xs ≡ count)
      (answers : (was late : State) → KeepsUnder edition t was.now → (rows : List Row) → Shown sql [] was late rows → rows ≡ map shown xs) where
    objects_taken : (a b : Numbered X) (all : Bool) → a.count ≡ 0 → TookRows (numbered_took shown IsGood number) g sql [] old new a b all →
        (IsTrue all × (b.count ≡ count)) ⊎ IsTrue b.lacks_memory
    objects_taken a b all none h =
        after (all_or_excused edition g old new t k sql q text shown (numbered_took shown IsGood number) Fits (λ d. IsTrue d.lacks_memory) next
        (λ a b x xs fits refuses. refuses x fits.0.0 refl fits.1.0) a b all answer h)
      where
        Fits : Numbered X → List X → Type 0
        Fits d xs = AllByRecursion IsGood xs × IsNumbered number (suc d.count) xs × (d.count + length xs ≡ count)

        next : (a b : Numbered X) (x : X) (xs : List X) → Fits a (x ∷ xs) → numbered_took shown IsGood number a (shown x) b true → Fits b xs
        next a b x xs fits h =
            let counted = h.4 in
            let total : a.count + suc (length xs) ≡ count = fits.2 in
            (fits.0.1, subst (λ n. IsNumbered number (suc n) xs) (sym counted) fits.1.1, omega (arith, counted, total))

        answer : (was late : State) → KeepsUnder edition t was.now → (rows : List Row) → Shown sql [] was late rows → (ys : List X)
            × (rows ≡ map shown ys) × Fits a ys
        answer was late kept rows h =
            (xs, answers was late kept rows h, (good, subst (λ n. IsNumbered number (suc n) xs) (sym none) numbered, omega (arith, none, long)))

        after : (IsTrue all × Fits b []) ⊎ IsTrue b.lacks_memory → (IsTrue all × (b.count ≡ count)) ⊎ IsTrue b.lacks_memory
        after (inl it) = let e : b.count + 0 ≡ count = it.1.2 in inl (it.0, omega (arith, e))
        after (inr lacks) = inr lacks

  pub parties_taken : (a b : Numbered Party) (all : Bool) → a.count ≡ 0 → TookRows party_took g EACH_PARTY.now [] old new a b all →
      (IsTrue all × (b.count ≡ t.desk.parties)) ⊎ IsTrue b.lacks_memory
  parties_taken =
      objects_taken shown_party IsParty (λ p. p.id) EACH_PARTY.now _ (each_party_text edition) t.parties t.desk.parties typed.parties typed.party_numbers
      typed.party_count (λ was late kept rows h. parties_shown edition was late t typed kept rows h)

  pub parcels_taken : (a b : Numbered Parcel) (all : Bool) → a.count ≡ 0 → TookRows parcel_took g EACH_PARCEL.now [] old new a b all →
      (IsTrue all × (b.count ≡ t.desk.parcels)) ⊎ IsTrue b.lacks_memory
  parcels_taken =
      objects_taken shown_parcel IsParcel (λ p. p.id) EACH_PARCEL.now _ (each_parcel_text edition) t.parcels t.desk.parcels typed.parcels typed.parcel_numbers
      typed.parcel_count (λ was late kept rows h. parcels_shown edition was late t typed kept rows h)

  pub interests_taken : (a b : Interests) (all : Bool) → TookRows interest_took g EACH_INTEREST.now [] old new a b all → IsTrue all
  interests_taken a b all h =
      after (all_or_excused edition g old new t k EACH_INTEREST.now _ (each_interest_text edition) shown_interest interest_took (λ d is. AllByRecursion IsInterest is) (λ d. ⊥)
      (λ a b i is fits h. fits.1) (λ a b i is fits refuses. refuses i fits.0 refl) a b all
      answer h)
    where
      answer : (was late : State) → KeepsUnder edition t was.now → (rows : List Row) → Shown EACH_INTEREST.now [] was late rows → (is : List Interest)
          × (rows ≡ map shown_interest is) × AllByRecursion IsInterest is
      answer was late kept rows h = let it = interests_shown edition was late t typed kept rows h in (it.0, it.1, it.2)

      after : (IsTrue all × AllByRecursion IsInterest []) ⊎ ⊥ → IsTrue all
      after (inl it) = it.0
      after (inr never) = absurd never

  abbrev papers_of : List FileRow → List ℕ
  papers_of = map (λ f. f.state.papers)

  pub files_taken : (a b : Files) (all : Bool) → a.counts.items ≡ [] → a.upgrade ≡ t.upgrade → TookRows file_took g EACH_FILE.now [] old new a b all →
      (IsTrue all × (b.counts.items ≡ papers_of t.files)) ⊎ IsTrue b.lacks_memory
  files_taken a b all none same h =
      after (all_or_excused edition g old new t k EACH_FILE.now _ (each_file_text edition) shown_file file_took Fits (λ d. IsTrue d.lacks_memory) next
      (λ a b f fs fits refuses. refuses f (subst (λ u. IsGoodFile u f) (sym fits.3) fits.0.0) refl fits.1.0) a b all answer h)
    where
      Fits : Files → List FileRow → Type 0
      Fits d fs = AllByRecursion (IsGoodFile t.upgrade) fs × IsNumbered (λ f. f.id) (suc (length d.counts.items)) fs × (d.counts.items ++ papers_of fs ≡ papers_of t.files)
          × (d.upgrade ≡ t.upgrade)

      long_more : (xs : List ℕ) (x : ℕ) → length (xs ++ x ∷ []) ≡ suc (length xs)
      long_more [] x = refl
      long_more (y ∷ xs) x = ap suc (long_more xs x)

      next : (a b : Files) (f : FileRow) (fs : List FileRow) → Fits a (f ∷ fs) → file_took a (shown_file f) b true → Fits b fs
      next a b f fs fits step =
          let h = step.0 in
          let seen : int f.state.papers ≡ int h.0.state.papers = ap (λ r. column r 18) h.2 in
          let same : h.0.state.papers ≡ f.state.papers = cc in
          let more : b.counts.items ≡ a.counts.items ++ f.state.papers ∷ [] = h.4 ∙ ap (λ n. a.counts.items ++ n ∷ []) same in
          let long : length b.counts.items ≡ suc (length a.counts.items) = ap length more ∙ long_more a.counts.items f.state.papers in (
            fits.0.1,
            subst (λ n. IsNumbered (λ (f : FileRow). f.id) (suc n) fs) (sym long) fits.1.1,
            ap (λ l. l ++ papers_of fs) more ∙ append_assoc a.counts.items (f.state.papers ∷ []) (papers_of fs) ∙ fits.2,
            step.1 ∙ fits.3,
          )

      good : (fs : List FileRow) → AllByRecursion (λ f. IsFile f) fs → AllByRecursion (λ f. IsNamed t.upgrade f.id f.state) fs → AllByRecursion (IsGoodFile t.upgrade) fs
      good [] p q = tt
      good (f ∷ fs) p q = ((p.0, q.0), good fs p.1 q.1)

      answer : (was late : State) → KeepsUnder edition t was.now → (rows : List Row) → Shown EACH_FILE.now [] was late rows → (fs : List FileRow)
          × (rows ≡ map shown_file fs) × Fits a fs
      answer was late kept rows h = (
        t.files,
        files_shown edition was late t typed kept rows h,
        (
          good t.files typed.files k.keyed.named,
          subst (λ l. IsNumbered (λ (f : FileRow). f.id) (suc (length l)) t.files) (sym none) typed.file_numbers,
          ap (λ l. l ++ papers_of t.files) none,
          same,
        ),
      )

      after : (IsTrue all × Fits b []) ⊎ IsTrue b.lacks_memory → (IsTrue all × (b.counts.items ≡ papers_of t.files)) ⊎ IsTrue b.lacks_memory
      after (inl it) = inl (it.0, sym (append-nil b.counts.items) ∙ it.1.2)
      after (inr lacks) = inr lacks

  pub papers_taken : (a b : Papers) (all : Bool) → a.file ≡ 0 → a.number ≡ 0 → a.counts.items ≡ papers_of t.files →
      TookRows paper_took g EACH_PAPER.now [] old new a b all → IsTrue all ⊎ IsTrue b.lacks_memory
  papers_taken a b all no_file no_number has h =
      after (all_or_excused edition g old new t k EACH_PAPER.now _ (each_paper_text edition) shown_paper paper_took Fits (λ d. IsTrue d.lacks_memory) next stop a b all answer h)
    where
      Fits : Papers → List Paper → Type 0
      Fits d ps = AllByRecursion IsPaper ps × IsRising d.file d.number ps × AllByRecursion (λ p. p.number ≤ counted_in (papers_of t.files) p.file) ps
          × (d.counts.items ≡ papers_of t.files)

      next : (a b : Papers) (p : Paper) (ps : List Paper) → Fits a (p ∷ ps) → paper_took a (shown_paper p) b true → Fits b ps
      next a b p ps fits h =
          let it = h.0 in
          let file_seen : int p.file ≡ int it.0.file = ap (λ r. column r 0) it.2 in
          let number_seen : int p.number ≡ int it.0.number = ap (λ r. column r 1) it.2 in
          let file : p.file ≡ b.file = let e : p.file ≡ it.0.file = cc in e ∙ it.3 in
          let number : p.number ≡ b.number = let e : p.number ≡ it.0.number = cc in e ∙ it.4 in
          (fits.0.1, subst (λ n. IsRising b.file n ps) number (subst (λ f. IsRising f p.number ps) file fits.1.1), fits.2.1, h.1 ∙ fits.3)

      stop : (a b : Papers) (p : Paper) (ps : List Paper) → Fits a (p ∷ ps) → paper_took a (shown_paper p) b false → IsTrue b.lacks_memory
      stop a b p ps fits refuses = refuses p fits.0.0 refl fits.1.0 (subst (λ c. p.number ≤ counted_in c p.file) (sym fits.3) fits.2.0)

      answer : (was late : State) → KeepsUnder edition t was.now → (rows : List Row) → Shown EACH_PAPER.now [] was late rows → (ps : List Paper)
          × (rows ≡ map shown_paper ps) × Fits a ps
      answer was late kept rows h =
          let it = papers_shown edition was late t typed kept rows h in
          (it.0, it.1, (it.2, subst (λ n. IsRising a.file n it.0) (sym no_number) (subst (λ f. IsRising f 0 it.0) (sym no_file) it.3), it.4, has))

      after : (IsTrue all × Fits b []) ⊎ IsTrue b.lacks_memory → IsTrue all ⊎ IsTrue b.lacks_memory
      after (inl it) = inl it.0
      after (inr lacks) = inr lacks

  pub rowids_taken : (a b : Rowids) (all : Bool) → a.last ≡ None → TookRows rowid_took g EACH_ROWID.now [] old new a b all → IsTrue all ⊎ IsTrue b.is_strange
  rowids_taken a b all none h =
      after (all_or_excused edition g old new t k EACH_ROWID.now _ (each_rowid_text edition) (λ v. v ∷ []) rowid_took Fits (λ d. IsTrue d.is_strange) next stop a b all answer h)
    where
      Fits : Rowids → List Value → Type 0
      Fits d vs = First (λ v. (l : ℤ) → d.last ≡ Some l → AreUp (Int l) v) vs × Adjacent AreUp vs

      first_up : (v : Value) (l : ℤ) (vs : List Value) (d : Rowids) → v ≡ Int l → d.last ≡ Some l → First (AreUp v) vs →
          First (λ w. (m : ℤ) → d.last ≡ Some m → AreUp (Int m) w) vs
      first_up v l [] d is last up = tt
      first_up v l (w ∷ vs) d is last up = λ m has. let e : Int m ≡ v = cc in subst (λ x. AreUp x w) (sym e) up

      next : (a b : Rowids) (v : Value) (vs : List Value) → Fits a (v ∷ vs) → rowid_took a (v ∷ []) b true → Fits b vs
      next a b v vs fits h = (first_up v h.0 vs b h.1 h.3 fits.1.0, fits.1.1)

      stop : (a b : Rowids) (v : Value) (vs : List Value) → Fits a (v ∷ vs) → rowid_took a (v ∷ []) b false → IsTrue b.is_strange
      stop a b v vs fits (inl strange) = strange
      stop a b v vs fits (inr h) = clash_ℤ (fits.0 h.1 h.3 h.1 h.0 refl h.2) h.4

      answer : (was late : State) → KeepsUnder edition t was.now → (rows : List Row) → Shown EACH_ROWID.now [] was late rows → (vs : List Value)
          × (rows ≡ map (λ v. v ∷ []) vs) × Fits a vs
      answer was late kept rows h =
          let it = rowids_shown edition was late t typed kept rows h in
          (it.0, it.1, (start it.0, it.2))
        where
          start : (vs : List Value) → First (λ v. (l : ℤ) → a.last ≡ Some l → AreUp (Int l) v) vs
          start [] = tt
          start (v ∷ vs) = λ l has. absurd (let e = none in cc)

      after : (IsTrue all × Fits b []) ⊎ IsTrue b.is_strange → IsTrue all ⊎ IsTrue b.is_strange
      after (inl it) = inl it.0
      after (inr strange) = inr strange
