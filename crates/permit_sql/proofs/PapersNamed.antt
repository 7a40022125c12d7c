-- What is named of typed papers is false of them.
use Rattle.std.proofs.Common.{◌≡◌, ◌⊎◌, inl, inr, ℕ, zero, suc, ◌+◌, ◌-◌, ◌<◌, ◌≤◌, Bool, true, false, not, Some, None, Option, List, [], ◌∷◌, ◌++◌, map, filter, length, refl, sym, ap, ap₂, subst}
use Rattle.std.proofs.Common.{◌∙◌, arith, true≢false, IsPermutation}
use Rattle.std.specs.Prelude.{◌&&◌, ◌||◌, ◌==◌, IsTrue, IsSome, is_some, unwrap_or, IfSome, MatchBool, nat_le, nat_lt, if◌then◌else◌, slice_get, slice_set}
use Rattle.std.specs.List.{list_any, list_all, flat_map, AllByRecursion}
use Rattle.std.proofs.lemmas.Bool.{and_from, or_left, or_right, or_from, eq-eqb}
use Rattle.std.proofs.lemmas.Bool.Decides.{nat_tests}
use Rattle.std.proofs.lemmas.List.Sorted.{list_any-IsPermutation}
use Rattle.sqlite_value.specs.Order.{Row}
use Rattle.sqlite_trees.specs.declared.store.Store.{Ghosts}
use Rattle.sqlite.specs.State.{State, Shown}
use Rattle.sqlite.specs.Held.{Held, state}
use Rattle.permit_base.specs.Limits.{most_papers}
use Rattle.permit_base.specs.declared.words.Edition.{Edition}
use Rattle.permit_model.specs.Tables.{Tables, FileRow, Paper}
use Rattle.permit_model.specs.Sound.{papers_in}
use Rattle.permit_sql_rows.specs.Rows.{shown_paper}
use Rattle.permit_sql_rows.specs.Kept.{KeepsUnder, AreKeyed}
use Rattle.permit_sql_rows.specs.Typed.{IsPaper}
use Rattle.permit_sql.specs.Taken.{TookRows}
use Rattle.permit_sql.specs.Found.{AreTyped, IsRising, counted_in}
use Rattle.permit_sql.specs.Tested.{first_tally, is_next, tally_after, is_ended}
use Rattle.permit_sql.specs.Named.{breaks, is_it, holds_of_paper, holds_of_file, fits_paper_rule, fault_at, fault_at_end, unended_from, first_gap, first_fall, is_that}
use Rattle.permit_sql.specs.First.{or_else, of_paper, of_turn, told_after, of_papers, papers_in_order, first_of_papers, paper_rules, ReadsPaper, NamesPaper}
use Rattle.permit_sql.specs.declared.fault.Fault.{Fault}
use Rattle.permit_sql.specs.declared.fault.Fault.TheVariants as fault
use Rattle.permit_sql.specs.declared.fault.FileRule.{FileRule}
use Rattle.permit_sql.specs.declared.fault.FileRule.TheVariants as file
use Rattle.permit_sql.specs.declared.fault.PaperRule.{PaperRule}
use Rattle.permit_sql.specs.declared.fault.PaperRule.TheVariants as paper
use Rattle.permit_sql.specs.declared.tally.Tally.{Tally}
use Rattle.permit_sql.specs.declared.first_unsound_paper.Read.{Read}
use Rattle.permit_sql.specs.declared.texts.TheConstants.{EACH_PAPER}
use Rattle.permit_sql.proofs.WholeMeanings.{each_paper_text}
use Rattle.permit_sql.proofs.PapersAnswered.{papers_shown}
use Rattle.permit_sql.proofs.Refused.{all_or_stopped}
use Rattle.permit_sql.proofs.Soundness.{among, file_there}
use Rattle.permit_sql.proofs.Tallies.{long_set, of_file, open_in}
use Rattle.permit_sql.proofs.FilesFilled.{file_at, in_file}
use Rattle.permit_sql.proofs.Followed.{Follows, Follow, follows_first, follows_here, follow_next, wrong_number, early_day, one_more_open, wrong_papers, wrong_notices}
use Rattle.permit_sql.proofs.InOrder.{in_files}
use Rattle.permit_sql.proofs.Firsts.{some_first}
use Rattle.permit_sql.proofs.Naming.{Among, found_is, negated, first_fails, itself, mapped, broken_fails}

-- ---- lists

any_at : {A : Type 0} (test : A → Bool) (xs : List A) (i : ℕ) (x : A) → slice_get xs i ≡ Some x → test x ≡ true → list_any test xs ≡ true
any_at test [] i x got h = absurd (let e = got in cc)
any_at test (y ∷ ys) zero x got h = let e : y ≡ x = cc in or_left (test y) _ (ap test e ∙ h)
any_at test (y ∷ ys) (suc i) x got h = or_right (test y) _ (any_at test ys i x got h)

not_all_at : {A : Type 0} (test : A → Bool) (xs : List A) (i : ℕ) (x : A) → slice_get xs i ≡ Some x → test x ≡ false → list_all test xs ≡ false
not_all_at test [] i x got h = absurd (let e = got in cc)
not_all_at test (y ∷ ys) zero x got h = let e : y ≡ x = cc in first_fails (test y) _ (ap test e ∙ h)
not_all_at test (y ∷ ys) (suc i) x got h = second (test y) _ (not_all_at test ys i x got h)
  where
    second : (a b : Bool) → b ≡ false → (a && b) ≡ false
    second true b e = e
    second false b e = refl

beyond : {A : Type 0} (xs : List A) (i : ℕ) → slice_get xs i ≡ None → length xs ≤ i
beyond [] i got = omega arith
beyond (x ∷ xs) zero got = absurd (let e = got in cc)
beyond (x ∷ xs) (suc i) got = let e = beyond xs i got in omega (arith, e)

not_within : (a b : ℕ) → b < a → nat_le a b ≡ false
not_within a b low = grind (arith, nat_tests)

no_open : (b : Bool) (n : ℕ) → (not b || nat_lt 0 n) ≡ false → (b ≡ true) × (n ≡ 0)
no_open true zero h = (refl, refl)
no_open true (suc n) h = absurd (true≢false (sym (grind (arith, nat_tests)) ∙ h))
no_open false n h = absurd (true≢false h)

not_that : (n : ℕ) {o : Option ℕ} → o ≡ Some n → not (is_that o n) ≡ false
not_that n is = ap (λ o. not (is_that o n)) is ∙ ap not (itself n)

-- the first of the tallies that isn't ended, of files that are numbered from a number on
abbrev UnendedAt : ℕ → List Tally → Fault → Type 0
UnendedAt number ts found =
    (at : ℕ) × (u : Tally) × (slice_get ts at ≡ Some u) × (is_ended u ≡ false) × (found ≡ fault_at_end u (number + at))

unended_at : (ts : List Tally) (number : ℕ) (found : Fault) → unended_from number ts ≡ Some found → UnendedAt number ts found
unended_at [] number found is = absurd (let e = is in cc)
unended_at (u ∷ us) number found is = go (is_ended u) refl is (unended_at us (suc number) found)
  where
    go : (b : Bool) → is_ended u ≡ b → (if b then unended_from (suc number) us else Some (fault_at_end u number)) ≡ Some found →
        (unended_from (suc number) us ≡ Some found → UnendedAt (suc number) us found) → UnendedAt number (u ∷ us) found
    go true ended is later =
        let it = later is in
        (suc it.0, it.1, it.2, it.3, it.4 ∙ ap (fault_at_end it.1) (omega arith))
    go false unended is later = (0, u, refl, unended, (let e : found ≡ fault_at_end u number = cc in e) ∙ ap (fault_at_end u) (omega arith))

-- ---- what is reported of the papers

module _ (t : Tables) (typed : AreTyped t) (keyed : AreKeyed t) (xs : List Paper) (same : IsPermutation t.papers xs) (up : IsRising 0 0 xs)
    (few : list_all (λ (f : FileRow). nat_le f.state.papers most_papers) t.files ≡ true) where
  abbrev firsts : List Tally
  firsts = map (λ (f : FileRow). first_tally f.state) t.files

  -- the file of a tally, and its papers
  tallied : (i : ℕ) (first : Tally) → slice_get firsts i ≡ Some first →
      (f : FileRow) × (slice_get t.files i ≡ Some f) × (first ≡ first_tally f.state) × (f.id ≡ suc i) × (papers_in t f.id ≡ of_file (suc i) xs)
  tallied i first got =
      let it = file_at t.files 1 typed.file_numbers i first got in
      let id : it.0.id ≡ suc i = let e = it.3 in omega (arith, e) in
      (it.0, it.1, it.2, id, in_file t typed keyed xs same up few it.0.id ∙ ap (λ n. of_file n xs) id)

  -- the paper breaks the rule
  paper_is : (p : Paper) (ps : List Paper) → Among (p ∷ ps) xs → (rule : PaperRule) → holds_of_paper t rule p ≡ false →
      breaks t (fault.Paper (Some p.file) (Some p.number) rule) ≡ true
  paper_is p ps here rule broken =
      let test : Paper → Bool = λ q. is_it (Some p.file) q.file && is_it (Some p.number) q.number && not (holds_of_paper t rule q) in
      list_any-IsPermutation test t.papers xs same
      ∙ here test (or_left (test p) _ (and_from _ _ (and_from _ _ (itself p.file) (itself p.number)) (negated _ broken)))

  file_is : (number : Option ℕ) (i : ℕ) (f : FileRow) (rule : FileRule) → slice_get t.files i ≡ Some f → is_it number f.id ≡ true →
      holds_of_file t rule f ≡ false → breaks t (fault.File number rule) ≡ true
  file_is number i f rule got it broken = any_at (λ g. is_it number g.id && not (holds_of_file t rule g)) t.files i f got (and_from _ _ it (negated _ broken))

  alone : (p : Paper) → IsPaper p → (rule : PaperRule) → fits_paper_rule t.desk.parties t.desk.last rule p ≡ false → holds_of_paper t rule p ≡ false
  alone p good paper.File h = absurd (true≢false h)
  alone p good paper.Number h = absurd (true≢false h)
  alone p good paper.Uncounted h = absurd (true≢false h)
  alone p good paper.Twice h = absurd (true≢false h)
  alone p good paper.EarlyDay h = absurd (true≢false h)
  alone p good paper.LateDay h = h
  alone p good paper.Author h = among t typed p.author good.author ∙ h
  alone p good paper.Sort h = absurd (true≢false h)
  alone p good paper.Days h = h
  alone p good paper.Text h = h
  alone p good paper.Terms h = h
  alone p good paper.Open h = h
  alone p good paper.Rowid h = absurd (true≢false h)

  module _ (ts : List Tally) (p : Paper) (ps : List Paper) (good : IsPaper p) (here : Among (p ∷ ps) xs) (follow : Follow firsts xs ts (p ∷ ps))
      (u : Tally) (at : slice_get ts (p.file - 1) ≡ Some u) (none : is_next u p ≡ false) where
    abbrev place : ℕ
    place = p.file - 1

    abbrev named : Bool → Bool → Fault
    named b c = if b then (if c then fault.File (Some p.file) file.Notices else fault.Paper (Some p.file) (Some p.number) paper.EarlyDay)
        else fault.Paper (Some p.file) (Some p.number) paper.Number

    is_place : suc place ≡ p.file
    is_place = let low = good.file.0 in omega (arith, low)

    not_next : breaks t (fault_at u p) ≡ true
    not_next =
        let it = follows_here firsts xs ts p ps good.file.0 u at follow in
        let of = tallied place it.0 it.1 in
        let id : of.0.id ≡ p.file = of.3 ∙ is_place in
        let all = of_file (suc place) xs in
        let rest = of_file (suc place) ps in
        go it.0 of.0 it.2 of.1 of.2 id of.4 (p.number == u.number + 1) (nat_le u.day p.day) refl refl
      where
        go : (first : Tally) (f : FileRow) → Follows first (of_file (suc place) xs) u (p ∷ of_file (suc place) ps) → slice_get t.files place ≡ Some f →
            first ≡ first_tally f.state → f.id ≡ p.file → papers_in t f.id ≡ of_file (suc place) xs →
            (b c : Bool) → (p.number == u.number + 1) ≡ b → nat_le u.day p.day ≡ c → breaks t (named b c) ≡ true
        go first f h got is id papers false c number day =
            let whole : papers_in t p.file ≡ of_file (suc place) xs = ap (papers_in t) (sym id) ∙ papers in
            let wrong = wrong_number first (of_file (suc place) xs) u p (of_file (suc place) ps) h number in
            paper_is p ps here paper.Number (not_that p.number (ap (first_gap 1) whole ∙ wrong))
        go first f h got is id papers true false number day =
            let wrong = early_day first (of_file (suc place) xs) u p (of_file (suc place) ps) h day in
            let filed : first.day ≡ f.state.filed = ap (λ (w : Tally). w.day) is in
            let falls : first_fall f.state.filed (papers_in t f.id) ≡ Some p.number =
            ap (first_fall f.state.filed) papers ∙ ap (λ d. first_fall d (of_file (suc place) xs)) (sym filed) ∙ wrong in
            let its : not (f.id == p.file) ≡ false = ap not (eq-eqb f.id p.file id) in
            paper_is p ps here paper.EarlyDay (not_all_at
            (λ (g : FileRow). not (g.id == p.file) || not (is_that (first_fall g.state.filed (papers_in t g.id)) p.number)) t.files place f got
            (or_from _ _ its (not_that p.number falls)))
        go first f h got is id papers true true number day =
            let front : ((p.number == u.number + 1) && nat_le u.day p.day) ≡ true = and_from _ _ number day in
            let last : (not p.is_open || nat_lt 0 u.notices) ≡ false = sym (ap (λ b. b && (not p.is_open || nat_lt 0 u.notices)) front) ∙ none in
            let opened = no_open p.is_open u.notices last in
            let wrong = one_more_open first (of_file (suc place) xs) u p (of_file (suc place) ps) h opened.0 opened.1 in
            let counted : first.notices ≡ f.state.notices = ap (λ (w : Tally). w.notices) is in
            let broken : (f.state.notices == length (filter (λ q. q.is_open) (papers_in t f.id))) ≡ false =
            ap (λ l. f.state.notices == length (open_in l)) papers ∙ ap (λ n. n == length (open_in (of_file (suc place) xs))) (sym counted) ∙ wrong in
            file_is (Some p.file) place f file.Notices got (eq-eqb f.id p.file id) broken

  -- where all were read
  ended_wrong : (at : ℕ) (u : Tally) → is_ended u ≡ false → (first : Tally) (f : FileRow) → Follows first (of_file (suc at) xs) u [] →
      slice_get t.files at ≡ Some f → first ≡ first_tally f.state → f.id ≡ suc at → papers_in t f.id ≡ of_file (suc at) xs →
      (b : Bool) → (u.number == u.papers) ≡ b → breaks t (fault.File (Some (suc at)) (if b then file.Notices else file.Papers)) ≡ true
  ended_wrong at u unended first f h got is id papers true read =
      let some : (u.notices == 0) ≡ false = sym (ap (λ b. b && (u.notices == 0)) read) ∙ unended in
      let wrong = wrong_notices first (of_file (suc at) xs) u h some in
      let counted : first.notices ≡ f.state.notices = ap (λ (w : Tally). w.notices) is in
      file_is (Some (suc at)) at f file.Notices got (eq-eqb f.id (suc at) id) (ap (λ l. f.state.notices == length (open_in l)) papers
      ∙ ap (λ n. n == length (open_in (of_file (suc at) xs))) (sym counted) ∙ wrong)
  ended_wrong at u unended first f h got is id papers false read =
      let wrong = wrong_papers first (of_file (suc at) xs) u h read in
      let counted : first.papers ≡ f.state.papers = ap (λ (w : Tally). w.papers) is in
      file_is (Some (suc at)) at f file.Papers got (eq-eqb f.id (suc at) id) (first_fails _ _ (ap (λ l. f.state.papers == length l) papers
      ∙ ap (λ n. n == length (of_file (suc at) xs)) (sym counted) ∙ wrong))

  at_end : (ts : List Tally) → Follow firsts xs ts [] → (found : Fault) → unended_from 1 ts ≡ Some found → breaks t found ≡ true
  at_end ts follow found is = last (unended_at ts 1 found is)
    where
      last : UnendedAt 1 ts found → breaks t found ≡ true
      last (at, u, got, unended, same) =
          let it = follow at u got in
          let of = tallied at it.0 it.1 in
          subst (λ x. breaks t x ≡ true) (sym (same ∙ ap (fault_at_end u) (omega arith))) (ended_wrong at u unended it.0 of.0 it.2 of.1 of.2 of.3 of.4 (u.number == u.papers) refl)

-- ---- what is reported of one paper after another

or_none : (a b : Option Fault) → or_else a b ≡ None → (a ≡ None) × (b ≡ None)
or_none None b is = (refl, is)
or_none (Some f) b is = absurd (let e = is in cc)

or_enough : (a b more : Option Fault) → IsSome (or_else a b) → or_else a (or_else b more) ≡ or_else a b
or_enough None b more some = some_first b more some
or_enough (Some f) b more some = refl

-- a paper that is passed is the next one of its file
turned : (p : Paper) (o : Option Tally) → of_turn p o ≡ None → (u : Tally) × (o ≡ Some u) × (is_next u p ≡ true)
turned p None is = absurd (let e = is in cc)
turned p (Some u) is = (u, refl, go (is_next u p) is)
  where
    go : (b : Bool) → (if b then None else Some (fault_at u p)) ≡ None → b ≡ true
    go true is = refl
    go false is = absurd (let e = is in cc)

-- ---- what the taker reports

abbrev pub read_took : Read → Row → Read → Bool → Type 0
read_took a row b good = MatchBool good
    ((b.parties ≡ a.parties) × (b.last ≡ a.last) × ReadsPaper a.parties a.last a.tallies.items row b.tallies.items)
    (NamesPaper a.parties a.last a.tallies.items row b.fault b.lacks_memory)

module _ (edition : Edition) {S : Type 0} (g : Ghosts S) (old new : Held S) (t : Tables) (typed : AreTyped t) (k : KeepsUnder edition t (state g old).now)
    (few : list_all (λ (f : FileRow). nat_le f.state.papers most_papers) t.files ≡ true) where
  abbrev pub IsTold : Option Fault → Type 0
  IsTold o = IfSome o (λ f. IsTrue (breaks t f)) × (o ≡ first_of_papers t)

  abbrev tallies : List Tally
  tallies = map (λ (f : FileRow). first_tally f.state) t.files

  abbrev alone_of : Paper → Option Fault
  alone_of = of_paper t.desk.parties t.desk.last

  -- what holds of a taker and of the papers that are left
  record Fits (d : Read) (ps : List Paper) : Type 0 where
    good : AllByRecursion IsPaper ps
    parties : d.parties ≡ t.desk.parties
    last : d.last ≡ t.desk.last
    long : length d.tallies.items ≡ t.desk.files
    xs : List Paper
    same : IsPermutation t.papers xs
    up : IsRising 0 0 xs
    here : Among ps xs
    follow : Follow tallies xs d.tallies.items ps
    first : of_papers t.desk.parties t.desk.last d.tallies.items ps ≡ first_of_papers t

  moved : (d : Read) (p : Paper) → d.parties ≡ t.desk.parties → d.last ≡ t.desk.last → of_paper d.parties d.last p ≡ alone_of p
  moved d p parties last = ap (λ n. of_paper n d.last p) parties ∙ ap (λ l. of_paper t.desk.parties l p) last

  next : (d e : Read) (p : Paper) (ps : List Paper) → Fits d (p ∷ ps) → read_took d (shown_paper p) e true → Fits e ps
  next d e p ps fits h =
      let told = d.tallies.items in
      let place = p.file - 1 in
      let here = slice_get told place in
      let it = h.2 p fits.good.0 refl in
      let none = or_none (of_paper d.parties d.last p) (of_turn p here) it.0 in
      let alone_none : alone_of p ≡ None = sym (moved d p fits.parties fits.last) ∙ none.0 in
      let u = turned p here none.1 in
      let now : e.tallies.items ≡ slice_set told place (tally_after u.0 p) = it.1 ∙ ap (told_after told p) u.1 in
      record {
        good = fits.good.1;
        parties = h.0 ∙ fits.parties;
        last = h.1 ∙ fits.last;
        long = ap length now ∙ long_set told place (tally_after u.0 p) ∙ fits.long;
        xs = fits.xs;
        same = fits.same;
        up = fits.up;
        here = λ test any. fits.here test (or_right (test p) _ any);
        follow = subst (λ ts. Follow tallies fits.xs ts ps) (sym now)
            (follow_next tallies fits.xs told p ps fits.good.0.file.0 u.0 u.1 fits.follow u.2);
        first = ap (λ ts. of_papers t.desk.parties t.desk.last ts ps) it.1
            ∙ sym (ap₂ (λ a b. or_else a (or_else b (of_papers t.desk.parties t.desk.last (told_after told p here) ps))) alone_none none.1) ∙ fits.first;
      }

  stop : (d e : Read) (p : Paper) (ps : List Paper) → Fits d (p ∷ ps) → read_took d (shown_paper p) e false → IsTold e.fault ⊎ IsTrue e.lacks_memory
  stop d e p ps fits h = elim (h p fits.good.0 refl) [ inl it ↦ inl (named (alone_of p) refl (told_here it.0) it.1, exact (told_here it.0) it.1) | inr lacks ↦ inr lacks ]
    where
      told : List Tally
      told = d.tallies.items

      here : Option Tally
      here = slice_get told (p.file - 1)

      told_here : e.fault ≡ or_else (of_paper d.parties d.last p) (of_turn p here) → e.fault ≡ or_else (alone_of p) (of_turn p here)
      told_here it = it ∙ ap (λ o. or_else o (of_turn p here)) (moved d p fits.parties fits.last)

      exact : e.fault ≡ or_else (alone_of p) (of_turn p here) → IsSome e.fault → e.fault ≡ first_of_papers t
      exact it some = it ∙ sym (or_enough (alone_of p) (of_turn p here) _ (subst IsSome it some)) ∙ fits.first

      by_rule : (f : Fault) → alone_of p ≡ Some f → breaks t f ≡ true
      by_rule f is =
          let it = mapped _ (fault.Paper (Some p.file) (Some p.number)) f is in
          let fails = broken_fails (λ rule. fits_paper_rule t.desk.parties t.desk.last rule p) paper_rules it.0 it.1 in
          subst (λ x. breaks t x ≡ true) it.2 (paper_is t typed k.keyed fits.xs fits.same fits.up few p ps fits.here it.0
          (alone t typed k.keyed fits.xs fits.same fits.up few p fits.good.0 it.0 fails))

      by_turn : (o : Option Tally) → here ≡ o → (f : Fault) → of_turn p o ≡ Some f → breaks t f ≡ true
      by_turn None none f is =
          let far = beyond told (p.file - 1) none in
          let low = fits.good.0.file.0 in
          let long = fits.long in
          let away : t.desk.files < p.file = omega (arith, far, low, long) in
          let same : fault.Paper (Some p.file) (Some p.number) paper.File ≡ f = cc in
          subst (λ x. breaks t x ≡ true) same (paper_is t typed k.keyed fits.xs fits.same fits.up few p ps fits.here paper.File
          (file_there t typed p.file fits.good.0.file ∙ not_within p.file t.desk.files away))
      by_turn (Some u) at f is = go (is_next u p) refl is
        where
          go : (b : Bool) → is_next u p ≡ b → (if b then None else Some (fault_at u p)) ≡ Some f → breaks t f ≡ true
          go true taken is = absurd (let e = is in cc)
          go false none is =
              let same : fault_at u p ≡ f = cc in
              subst (λ x. breaks t x ≡ true) same
              (not_next t typed k.keyed fits.xs fits.same fits.up few told p ps fits.good.0 fits.here fits.follow u at none)

      named : (o : Option Fault) → alone_of p ≡ o → e.fault ≡ or_else o (of_turn p here) → IsSome e.fault → IfSome e.fault (λ f. IsTrue (breaks t f))
      named (Some f) broken it some = found_is t e.fault f it (by_rule f broken)
      named None whole it some = turn (of_turn p here) refl it
        where
          turn : (o : Option Fault) → of_turn p here ≡ o → e.fault ≡ o → IfSome e.fault (λ f. IsTrue (breaks t f))
          turn (Some f) of it = found_is t e.fault f it (by_turn here refl f of)
          turn None of it = absurd (true≢false (sym some ∙ ap is_some it))

  first_fits : (a : Read) → a.parties ≡ t.desk.parties → a.last ≡ t.desk.last → a.tallies.items ≡ tallies → (was late : State) →
      KeepsUnder edition t was.now → (rows : List Row) → Shown EACH_PAPER.now [] was late rows → (ps : List Paper) × (rows ≡ map shown_paper ps) × Fits a ps
  first_fits a parties last has was late kept rows h =
      let it = papers_shown edition was late t typed kept rows h in (
        it.0,
        it.1,
        record {
          good = it.2;
          parties = parties;
          last = last;
          long = ap length has ∙ long_first t.files ∙ typed.file_count;
          xs = it.0;
          same = it.5;
          up = it.3;
          here = λ test any. any;
          follow = λ i u got. let first = sym (ap (λ ts. slice_get ts i) has) ∙ got in
              (u, first, follows_first u (of_file (suc i) it.0) (starts i u first));
          first = ap₂ (of_papers t.desk.parties t.desk.last) has (in_order it.0 it.2 it.3 it.4 it.5);
        },
      )
    where
      long_first : (fs : List FileRow) → length (map (λ (f : FileRow). first_tally f.state) fs) ≡ length fs
      long_first [] = refl
      long_first (f ∷ fs) = ap suc (long_first fs)

      starts : (i : ℕ) (u : Tally) → slice_get tallies i ≡ Some u → u.number ≡ 0
      starts i u got = let it = file_at t.files 1 typed.file_numbers i u got in ap (λ (w : Tally). w.number) it.2

      low : (ps : List Paper) → AllByRecursion IsPaper ps → AllByRecursion (λ q. 1 ≤ q.file) ps
      low [] h = tt
      low (p ∷ ps) h = (h.0.file.0, low ps h.1)

      counted : (fs : List FileRow) (i : ℕ) → 0 < unwrap_or (slice_get (map (λ (f : FileRow). f.state.papers) fs) i) 0 → i < length fs
      counted [] i some = absurd (omega (arith, some))
      counted (f ∷ fs) zero some = omega arith
      counted (f ∷ fs) (suc i) some = let e = counted fs i some in omega (arith, e)

      high : (ps : List Paper) → AllByRecursion IsPaper ps → AllByRecursion (λ p. p.number ≤ counted_in (map (λ (f : FileRow). f.state.papers) t.files) p.file) ps →
          AllByRecursion (λ q. q.file ≤ length t.files) ps
      high [] good h = tt
      high (p ∷ ps) good h =
          let some = good.0.number.0 in
          let most = h.0 in
          let place = counted t.files (p.file - 1) (omega (arith, some, most)) in
          (omega (arith, place), high ps good.1 h.1)

      in_order : (ps : List Paper) → AllByRecursion IsPaper ps → IsRising 0 0 ps →
          AllByRecursion (λ p. p.number ≤ counted_in (map (λ (f : FileRow). f.state.papers) t.files) p.file) ps → IsPermutation t.papers ps →
          ps ≡ papers_in_order t
      in_order ps good up counted same =
          in_files t.files ps typed.file_numbers up (low ps good) (high ps good counted)
          ∙ each_file t.files
        where
          each_file : (fs : List FileRow) → flat_map (λ (f : FileRow). of_file f.id ps) fs ≡ flat_map (λ (f : FileRow). papers_in t f.id) fs
          each_file [] = refl
          each_file (f ∷ fs) = ap₂ ◌++◌ (sym (in_file t typed k.keyed ps same up few f.id)) (each_file fs)

  -- what a pass reports at its end
  abbrev pub IsEnd : List Tally → Type 0
  IsEnd ts = ((found : Fault) → unended_from 1 ts ≡ Some found → IsTrue (breaks t found)) × (length ts ≡ t.desk.files) × (unended_from 1 ts ≡ first_of_papers t)

  -- it took all papers, and what it reports of a file that isn't ended is so; or it stopped, and what it names is so
  pub papers_told : (a b : Read) (all : Bool) → a.parties ≡ t.desk.parties → a.last ≡ t.desk.last → a.tallies.items ≡ tallies →
      TookRows read_took g EACH_PAPER.now [] old new a b all → b.lacks_memory ≡ false → ((all ≡ true) × IsEnd b.tallies.items) ⊎ ((all ≡ false) × IsTold b.fault)
  papers_told a b all parties last has h enough =
      after (all_or_stopped edition g old new t k EACH_PAPER.now _ (each_paper_text edition) shown_paper read_took Fits (λ d. IsTold d.fault ⊎ IsTrue d.lacks_memory)
      next stop a b all (first_fits a parties last has) h)
    where
      after : ((all ≡ true) × Fits b []) ⊎ ((all ≡ false) × (IsTold b.fault ⊎ IsTrue b.lacks_memory)) →
          ((all ≡ true) × IsEnd b.tallies.items) ⊎ ((all ≡ false) × IsTold b.fault)
      after (inl (took, fits)) = inl (took, (at_end t typed k.keyed fits.xs fits.same fits.up few b.tallies.items fits.follow, fits.long, fits.first))
      after (inr (stopped, inl told)) = inr (stopped, told)
      after (inr (stopped, inr lacks)) = absurd (true≢false (sym lacks ∙ enough))
