-- The papers after an admitted command: those of its file, and those of each other.
use Rattle.std.proofs.Common.{◌≡◌, ◌≤◌, ◌<◌, ℕ, ◌+◌, suc, Bool, true, false, cond, ◌==◌, List, [], ◌∷◌, ◌++◌, map, length, refl, sym, ◌∙◌, ap, arith}
use Rattle.std.proofs.Common.{length-append}
use Rattle.std.specs.Prelude.{Option, None, Some, is_some, is_none, filter, option_map, ◌&&◌, ◌||◌, nat_le, if◌then◌else◌, unwrap_or}
use Rattle.std.specs.List.{list_all, list_any}
use Rattle.std.proofs.lemmas.Bool.{eq-eqb, eqb-true, ne_eqb, le-leb, leb-true, ltb-false, and_from, and_right, and_parts}
use Rattle.std.proofs.lemmas.List.{length-map, append-nil}
use Rattle.std.proofs.lemmas.List.Elements.{filter-append}
use Rattle.std.proofs.lemmas.List.Folds.{list_all-append, list_all-map}
use Rattle.permit_base.specs.Limits.{is_between, most_papers}
use Rattle.permit_base.specs.Texts.{is_printable}
use Rattle.permit_base.specs.declared.words.PaperSort.{PaperSort}
use Rattle.permit_base.specs.declared.words.PaperSort.TheVariants as sort
use Rattle.permit_base.specs.declared.request.Command.{Command}
use Rattle.permit_base.specs.declared.request.Command.TheVariants.{Return, Resubmit, Reject, Issue, AskExtension, GrantExtension, RefuseExtension}
use Rattle.permit_base.specs.declared.request.Command.TheVariants.{Notice, ClearNotice, Stop, Lift, Revoke, Temporary, Certify}
use Rattle.permit_core.specs.declared.people.People.{People}
use Rattle.permit_core.specs.Naming.{named_paper}
use Rattle.permit_core.specs.Views.{row_stage}
use Rattle.permit_core.specs.RowTests.{row_tests}
use Rattle.permit_core.specs.RowAfter.{row_after, row_paper_days}
use Rattle.permit_model.specs.Days.{longest_permit_extension, longest_temporary}
use Rattle.permit_model.specs.Work.{paper_sort, makes_paper}
use Rattle.permit_model.specs.Admission.{ask_limit}
use Rattle.permit_model.specs.Numbering.{is_numbered_from}
use Rattle.permit_model.specs.Tables.{State, Paper, is_notice}
use Rattle.permit_model.specs.Within.{is_command_within}
use Rattle.permit_model.specs.Sound.{if_any, never_fall}
use Rattle.permit_model.proofs.Fronts.{AllPass}
use Rattle.permit_model.proofs.SoundLists.{between, all_more, passed_not}
use Rattle.permit_model.proofs.SoundWork.{longest_of_all, limit_kept, least_days}
use Rattle.permit_model.proofs.SoundPapers.{if_paper, says}
use Rattle.permit_store.specs.Changes.{closed_by}
use Rattle.permit_office.specs.Effects.{paper_entered, papers_with}
use Rattle.permit_office.proofs.Growing.{numbered_more, numbered_same}

-- ---- lists that are filtered

pub all_filtered : (test : Paper → Bool) (ps : List Paper) → list_all test (filter test ps) ≡ true
all_filtered test [] = refl
all_filtered test (p ∷ ps) = by (test p) refl (all_filtered test ps)
  where
    by : (b : Bool) → test p ≡ b → list_all test (filter test ps) ≡ true → list_all test (cond b (p ∷ filter test ps) (filter test ps)) ≡ true
    by true e ih = and_from _ _ e ih
    by false e ih = ih

pub all_of_filter : (test which : Paper → Bool) (ps : List Paper) → list_all test ps ≡ true → list_all test (filter which ps) ≡ true
all_of_filter test which [] all = refl
all_of_filter test which (p ∷ ps) all =
    let parts = and_parts (test p) (list_all test ps) all in
    by (which p) parts.0 (all_of_filter test which ps parts.1)
  where
    by : (b : Bool) → test p ≡ true → list_all test (filter which ps) ≡ true → list_all test (cond b (p ∷ filter which ps) (filter which ps)) ≡ true
    by true e ih = and_from _ _ e ih
    by false e ih = ih

same_where : (f : Paper → Paper) (test : Paper → Bool) (ps : List Paper) → ((p : Paper) → test p ≡ true → f p ≡ p) → list_all test ps ≡ true → map f ps ≡ ps
same_where f test [] same all = refl
same_where f test (p ∷ ps) same all =
    let parts = and_parts (test p) (list_all test ps) all in
    ap (λ q. q ∷ map f ps) (same p parts.0) ∙ ap (λ qs. p ∷ qs) (same_where f test ps same parts.1)

-- ---- a paper that is closed

closed_file : (id n : ℕ) (p : Paper) → (closed_by id n p).file ≡ p.file
closed_file id n p = by ((p.file == id) && (p.number == n))
  where
    by : (b : Bool) → (if b then record p { is_open = false } else p).file ≡ p.file
    by true = refl
    by false = refl

closed_number : (id n : ℕ) (p : Paper) → (closed_by id n p).number ≡ p.number
closed_number id n p = by ((p.file == id) && (p.number == n))
  where
    by : (b : Bool) → (if b then record p { is_open = false } else p).number ≡ p.number
    by true = refl
    by false = refl

closed_day : (id n : ℕ) (p : Paper) → (closed_by id n p).day ≡ p.day
closed_day id n p = by ((p.file == id) && (p.number == n))
  where
    by : (b : Bool) → (if b then record p { is_open = false } else p).day ≡ p.day
    by true = refl
    by false = refl

-- what holds of a paper, open or not, holds of it closed
pub closed_passes : (test : Paper → Bool) (id n : ℕ) (p : Paper) → (test p ≡ true → test (record p { is_open = false }) ≡ true) → test p ≡ true →
    test (closed_by id n p) ≡ true
closed_passes test id n p closes e = by ((p.file == id) && (p.number == n))
  where
    by : (b : Bool) → test (if b then record p { is_open = false } else p) ≡ true
    by true = closes e
    by false = e

closed_elsewhere : (id n : ℕ) (p : Paper) → (p.file == id) ≡ false → closed_by id n p ≡ p
closed_elsewhere id n p e = rw e refl

closed_unnumbered : (id n : ℕ) (p : Paper) → (p.number == n) ≡ false → closed_by id n p ≡ p
closed_unnumbered id n p e = by (p.file == id) (p.number == n) e
  where
    by : (a b : Bool) → b ≡ false → (if a && b then record p { is_open = false } else p) ≡ p
    by true b e = ap (λ c. if c then record p { is_open = false } else p) e
    by false b e = refl

closed_here : (id n : ℕ) (p : Paper) → (p.file == id) ≡ true → (p.number == n) ≡ true → closed_by id n p ≡ record p { is_open = false }
closed_here id n p e f = rw (e, f) refl

-- ---- the papers of one file

filter_closed : (other id n : ℕ) (ps : List Paper) →
    filter (λ (p : Paper). p.file == other) (map (closed_by id n) ps) ≡ map (closed_by id n) (filter (λ (p : Paper). p.file == other) ps)
filter_closed other id n [] = refl
filter_closed other id n (p ∷ ps) =
    ap (λ k. cond (k == other) (closed_by id n p ∷ filter (λ (q : Paper). q.file == other) (map (closed_by id n) ps))
    (filter (λ (q : Paper). q.file == other) (map (closed_by id n) ps))) (closed_file id n p) ∙ by (p.file == other) (filter_closed other id n ps)
  where
    by : (b : Bool) →
        filter (λ (q : Paper). q.file == other) (map (closed_by id n) ps) ≡ map (closed_by id n) (filter (λ (q : Paper). q.file == other) ps) →
        cond b (closed_by id n p ∷ filter (λ (q : Paper). q.file == other) (map (closed_by id n) ps))
        (filter (λ (q : Paper). q.file == other) (map (closed_by id n) ps))
        ≡ map (closed_by id n) (cond b (p ∷ filter (λ (q : Paper). q.file == other) ps) (filter (λ (q : Paper). q.file == other) ps))
    by true ih = ap (λ qs. closed_by id n p ∷ qs) ih
    by false ih = ih

module _ (id number day author days : ℕ) (command : Command) where
  -- of the file that has the command, the same is made
  pub made_here : (o : Option PaperSort) (cleared : Option ℕ) (ps : List Paper) →
      filter (λ (p : Paper). p.file == id) (papers_with id number day author days command o cleared ps)
      ≡ papers_with id number day author days command o cleared (filter (λ (p : Paper). p.file == id) ps)
  made_here (Some s) cleared ps =
      let new : Paper = paper_entered id number day author days command s in
      filter-append (λ (p : Paper). p.file == id) ps (new ∷ [])
      ∙ ap (λ b. filter (λ (p : Paper). p.file == id) ps ++ cond b (new ∷ []) []) (eq-eqb id id refl)
  made_here None (Some n) ps = filter_closed id id n ps
  made_here None None ps = refl

  -- of each other file, nothing
  pub made_elsewhere : (other : ℕ) (o : Option PaperSort) (cleared : Option ℕ) (ps : List Paper) → (id == other) ≡ false →
      filter (λ (p : Paper). p.file == other) (papers_with id number day author days command o cleared ps) ≡ filter (λ (p : Paper). p.file == other) ps
  made_elsewhere other (Some s) cleared ps e =
      let new : Paper = paper_entered id number day author days command s in
      filter-append (λ (p : Paper). p.file == other) ps (new ∷ [])
      ∙ ap (λ b. filter (λ (p : Paper). p.file == other) ps ++ cond b (new ∷ []) []) e ∙ append-nil (filter (λ (p : Paper). p.file == other) ps)
  made_elsewhere other None (Some n) ps e =
      filter_closed other id n ps
      ∙ same_where (closed_by id n) (λ p. p.file == other) (filter (λ (p : Paper). p.file == other) ps)
      (λ p f. closed_elsewhere id n p (not_this p f))
      (all_filtered (λ p. p.file == other) ps)
    where
      not_this : (p : Paper) → (p.file == other) ≡ true → (p.file == id) ≡ false
      not_this p f = ne_eqb p.file id (λ g. let bad : true ≡ false = sym (eq-eqb id other (sym g ∙ eqb-true p.file other f)) ∙ e in cc)
  made_elsewhere other None None ps e = refl

-- ---- counted, numbered and in the order of their days

days_closed : (id n : ℕ) (ps : List Paper) → map (λ (q : Paper). q.day) (map (closed_by id n) ps) ≡ map (λ (q : Paper). q.day) ps
days_closed id n [] = refl
days_closed id n (p ∷ ps) =
    ap (λ k. k ∷ map (λ (q : Paper). q.day) (map (closed_by id n) ps)) (closed_day id n p) ∙ ap (λ ks. p.day ∷ ks) (days_closed id n ps)

-- a paper more, on a day that is none before
fall_last : (first : ℕ) (ps : List Paper) (p : Paper) → first ≤ p.day → never_fall first (map (λ (q : Paper). q.day) ps) ≡ true →
    list_all (λ (q : Paper). nat_le q.day p.day) ps ≡ true → never_fall first (map (λ (q : Paper). q.day) (ps ++ p ∷ [])) ≡ true
fall_last first [] p low falls all = and_from _ _ (le-leb first p.day low) refl
fall_last first (q ∷ qs) p low falls all =
    let f = and_parts (nat_le first q.day) (never_fall q.day (map (λ (x : Paper). x.day) qs)) falls in
    let a = and_parts (nat_le q.day p.day) (list_all (λ (x : Paper). nat_le x.day p.day) qs) all in
    and_from _ _ f.0 (fall_last q.day qs p (leb-true q.day p.day a.0) f.1 a.1)

-- so many papers, numbered from 1, and in the order of their days, from that of the filing on
abbrev pub are_in_order : ℕ → ℕ → List Paper → Bool
are_in_order count filed ps =
    (count == length ps) && nat_le count most_papers && is_numbered_from (λ (p : Paper). p.number) 1 ps && never_fall filed (map (λ (p : Paper). p.day) ps)

pub order_more : (id day author days : ℕ) (command : Command) (o : Option PaperSort) (cleared : Option ℕ) (count filed last : ℕ) (ps : List Paper) →
    (is_some o ≡ true → count < most_papers) → filed ≤ day → last ≤ day → list_all (λ (p : Paper). nat_le p.day last) ps ≡ true →
    are_in_order count filed ps ≡ true →
    are_in_order (if is_some o then count + 1 else count) filed
    (papers_with id (if is_some o then count + 1 else count) day author days command o cleared ps) ≡ true
order_more id day author days command (Some s) cleared count filed last ps room late later by h =
    let new : Paper = paper_entered id (count + 1) day author days command s in
    let falls = and_parts _ (never_fall filed (map (λ (p : Paper). p.day) ps)) h in
    let numbered = and_parts _ (is_numbered_from (λ (p : Paper). p.number) 1 ps) falls.0 in
    let counted = and_parts (count == length ps) (nat_le count most_papers) numbered.0 in
    let same : count ≡ length ps = eqb-true count (length ps) counted.0 in
    let long : length (ps ++ new ∷ []) ≡ length ps + 1 = length-append ps (new ∷ []) in
    let before = all_more (λ (p : Paper). nat_le p.day last) (λ (p : Paper). nat_le p.day day) ps
    (λ p e. le-leb p.day day (omega (arith, later, leb-true p.day last e))) by in
    and_from _ _ (and_from _ _ (and_from _ _ (eq-eqb (count + 1) (length (ps ++ new ∷ [])) (omega (arith, same, long)))
    (le-leb (count + 1) most_papers (omega (arith, room refl))))
    (numbered_more (λ (q : Paper). q.number) 1 ps new (omega (arith, same)) numbered.1))
    (fall_last filed ps new late falls.1 before)
order_more id day author days command None (Some n) count filed last ps room late later by h =
    rw (length-map ps (closed_by id n), numbered_same (λ (q : Paper). q.number) (closed_by id n) (closed_number id n) 1 ps, days_closed id n ps) h
order_more id day author days command None None count filed last ps room late later by h = h

-- ---- the open papers are counted

abbrev pub opened : List Paper → List Paper
opened ps = filter (λ (p : Paper). p.is_open) ps

count_first : (p : Paper) (ps : List Paper) (b : Bool) → p.is_open ≡ b → length (opened (p ∷ ps)) ≡ cond b (suc (length (opened ps))) (length (opened ps))
count_first p ps true e = ap (λ c. length (cond c (p ∷ opened ps) (opened ps))) e
count_first p ps false e = ap (λ c. length (cond c (p ∷ opened ps) (opened ps))) e

-- numbers that come later are others
untouched : (id n first : ℕ) (ps : List Paper) → n < first → is_numbered_from (λ (q : Paper). q.number) first ps ≡ true → map (closed_by id n) ps ≡ ps
untouched id n first [] below numbered = refl
untouched id n first (p ∷ ps) below numbered =
    let parts = and_parts (p.number == first) (is_numbered_from (λ (q : Paper). q.number) (first + 1) ps) numbered in
    let other : (p.number == n) ≡ false = ne_eqb p.number n (omega (arith, below, eqb-true p.number first parts.0)) in
    ap (λ q. q ∷ map (closed_by id n) ps) (closed_unnumbered id n p other)
    ∙ ap (λ qs. p ∷ qs) (untouched id n (first + 1) ps (omega (arith, below)) parts.1)

abbrev has_open : ℕ → List Paper → Bool
has_open n ps = list_any (λ (p : Paper). p.is_open && (p.number == n)) ps

none_open : (n first : ℕ) (ps : List Paper) → n < first → is_numbered_from (λ (q : Paper). q.number) first ps ≡ true → has_open n ps ≡ false
none_open n first [] below numbered = refl
none_open n first (p ∷ ps) below numbered =
    let parts = and_parts (p.number == first) (is_numbered_from (λ (q : Paper). q.number) (first + 1) ps) numbered in
    let other : (p.number == n) ≡ false = ne_eqb p.number n (omega (arith, below, eqb-true p.number first parts.0)) in
    ap (λ b. b || has_open n ps) (and_right p.is_open (p.number == n) other) ∙ none_open n (first + 1) ps (omega (arith, below)) parts.1

close_first : (id n first : ℕ) (p : Paper) (ps : List Paper) (b o : Bool) → (p.number == n) ≡ b → p.is_open ≡ o → (p.file == id) ≡ true →
    p.number ≡ first → is_numbered_from (λ (q : Paper). q.number) (first + 1) ps ≡ true → ((p.is_open && (p.number == n)) || has_open n ps) ≡ true →
    (has_open n ps ≡ true → length (opened (map (closed_by id n) ps)) + 1 ≡ length (opened ps)) →
    length (opened (closed_by id n p ∷ map (closed_by id n) ps)) + 1 ≡ length (opened (p ∷ ps))
close_first id n first p ps true true e o file same numbered there ih =
    let after : length (opened (closed_by id n p ∷ map (closed_by id n) ps)) ≡ length (opened ps) =
    ap (λ q. length (opened (q ∷ map (closed_by id n) ps))) (closed_here id n p file e)
    ∙ ap (λ qs. length (opened qs)) (untouched id n (first + 1) ps (omega (arith, same, eqb-true p.number n e)) numbered) in
    omega (arith, after, count_first p ps true o)
close_first id n first p ps true false e o file same numbered there ih =
    let later : has_open n ps ≡ false = none_open n (first + 1) ps (omega (arith, same, eqb-true p.number n e)) numbered in
    let bad : true ≡ false = sym there ∙ ap (λ c. (c && (p.number == n)) || has_open n ps) o ∙ later in cc
close_first id n first p ps false true e o file same numbered there ih =
    let later : has_open n ps ≡ true = ap (λ c. c || has_open n ps) (sym (and_right p.is_open (p.number == n) e)) ∙ there in
    let after : length (opened (closed_by id n p ∷ map (closed_by id n) ps)) ≡ suc (length (opened (map (closed_by id n) ps))) =
    ap (λ q. length (opened (q ∷ map (closed_by id n) ps))) (closed_unnumbered id n p e) ∙ count_first p (map (closed_by id n) ps) true o in
    omega (arith, after, count_first p ps true o, ih later)
close_first id n first p ps false false e o file same numbered there ih =
    let later : has_open n ps ≡ true = ap (λ c. c || has_open n ps) (sym (and_right p.is_open (p.number == n) e)) ∙ there in
    let after : length (opened (closed_by id n p ∷ map (closed_by id n) ps)) ≡ length (opened (map (closed_by id n) ps)) =
    ap (λ q. length (opened (q ∷ map (closed_by id n) ps))) (closed_unnumbered id n p e) ∙ count_first p (map (closed_by id n) ps) false o in
    omega (arith, after, count_first p ps false o, ih later)

-- one open paper of a file that is closed is one less, since no two have one number
closing : (id n first : ℕ) (ps : List Paper) → is_numbered_from (λ (q : Paper). q.number) first ps ≡ true →
    list_all (λ (q : Paper). q.file == id) ps ≡ true → has_open n ps ≡ true → length (opened (map (closed_by id n) ps)) + 1 ≡ length (opened ps)
closing id n first [] numbered here there = cc
closing id n first (p ∷ ps) numbered here there =
    let parts = and_parts (p.number == first) (is_numbered_from (λ (q : Paper). q.number) (first + 1) ps) numbered in
    let all = and_parts (p.file == id) (list_all (λ (q : Paper). q.file == id) ps) here in
    close_first id n first p ps (p.number == n) p.is_open refl refl all.0 (eqb-true p.number first parts.0) parts.1 there
    (closing id n (first + 1) ps parts.1 all.1)

opened_last : (ps : List Paper) (p : Paper) (b : Bool) → p.is_open ≡ b → length (opened (ps ++ p ∷ [])) ≡ cond b (length (opened ps) + 1) (length (opened ps))
opened_last ps p true e =
    ap length (filter-append (λ (q : Paper). q.is_open) ps (p ∷ [])) ∙ ap (λ c. length (opened ps ++ cond c (p ∷ []) [])) e
    ∙ length-append (opened ps) (p ∷ [])
opened_last ps p false e =
    ap length (filter-append (λ (q : Paper). q.is_open) ps (p ∷ [])) ∙ ap (λ c. length (opened ps ++ cond c (p ∷ []) [])) e
    ∙ ap length (append-nil (opened ps))

-- whether the sort is that of a notice
abbrev is_notice_made : Option PaperSort → Bool
is_notice_made None = false
is_notice_made (Some s) = is_notice s

as_many : (id number day author days : ℕ) (command : Command) (o : Option PaperSort) (ps : List Paper) → is_notice_made o ≡ false →
    length (opened (papers_with id number day author days command o None ps)) ≡ length (opened ps)
as_many id number day author days command None ps e = refl
as_many id number day author days command (Some s) ps e = opened_last ps (paper_entered id number day author days command s) false e

-- whether the paper with the number, if one is named, is open
abbrev pub is_open_among : Option ℕ → List Paper → Bool
is_open_among None ps = false
is_open_among (Some n) ps = has_open n ps

pub opened_more : (id number day author days : ℕ) (command : Command) (s : State) (people : People) (ps : List Paper) →
    AllPass (row_tests day s people command) → is_numbered_from (λ (q : Paper). q.number) 1 ps ≡ true → list_all (λ (q : Paper). q.file == id) ps ≡ true →
    people.is_open_notice ≡ is_open_among (named_paper command) ps → s.notices ≡ length (opened ps) →
    (row_after day command s).notices ≡ length (opened (papers_with id number day author days command (paper_sort command) (named_paper command) ps))
opened_more id number day author days (Notice text) s people ps p numbered here told e =
    omega (arith, e, opened_last ps (paper_entered id number day author days (Notice text) sort.Notice) true refl)
opened_more id number day author days (ClearNotice n) s people ps p numbered here told e =
    let is : people.is_open_notice ≡ true = (and_parts people.is_open_notice _ (passed_not _ p.1.0)).0 in
    omega (arith, e, closing id n 1 ps numbered here (sym told ∙ is))
opened_more id number day author days command s people ps p numbered here told e =
    e ∙ sym (as_many id number day author days command (paper_sort command) ps refl)

-- ---- what the paper says

granted : (most : ℕ) (ask : Option ℕ) → is_none ask ≡ false → if_any (is_between 1 most) ask ≡ true → is_between 1 most (unwrap_or ask 0) ≡ true
granted most None pending e = cc
granted most (Some days) pending e = e

text_of : (b : Bool) (text : List ℕ) → (b && is_printable text) ≡ true → is_printable text ≡ true
text_of b text e = (and_parts b (is_printable text) e).1

-- a paper says what its sort does
pub written : (id number day author : ℕ) (command : Command) (s : State) (people : People) → AllPass (row_tests day s people command) →
    is_command_within command ≡ true → if_any (is_between 1 longest_permit_extension) s.ask ≡ true →
    if_paper says (option_map (paper_entered id number day author (row_paper_days s command) command) (paper_sort command)) ≡ true
written id number day author (Return text) s people p within ask = and_from _ _ (and_from _ _ within refl) refl
written id number day author (Resubmit text) s people p within ask = and_from _ _ (and_from _ _ within refl) refl
written id number day author (Reject text) s people p within ask = and_from _ _ (and_from _ _ within refl) refl
written id number day author (RefuseExtension text) s people p within ask = and_from _ _ (and_from _ _ within refl) refl
written id number day author (Revoke text) s people p within ask = and_from _ _ (and_from _ _ within refl) refl
written id number day author (Notice text) s people p within ask = and_from _ _ (and_from _ _ within refl) refl
written id number day author (AskExtension days text) s people p within ask =
    let small : days ≤ ask_limit (row_stage day s) = ltb-false (ask_limit (row_stage day s)) days p.1.0 in
    let most = between 1 longest_permit_extension days (least_days days text within)
    (omega (arith, small, limit_kept (row_stage day s), longest_of_all (row_stage day s))) in
    and_from _ _ (and_from _ _ (and_from _ _ most (text_of _ text within)) refl) refl
written id number day author GrantExtension s people p within ask =
    and_from _ _ (and_from _ _ (and_from _ _ (granted longest_permit_extension s.ask p.1.0 ask) refl) refl) refl
written id number day author (Temporary days text) s people p within ask =
    let small : days ≤ longest_temporary = ltb-false longest_temporary days p.1.1.0 in
    and_from _ _ (and_from _ _ (and_from _ _ (between 1 longest_temporary days (least_days days text within) small) (text_of _ text within)) refl) refl
written id number day author (Stop text conditions) s people p within ask =
    let parts = and_parts (is_printable text) (is_printable conditions) within in
    and_from _ _ (and_from _ _ parts.0 parts.1) refl
written id number day author _ s people p within ask = refl

-- a command that makes a paper finds room for it
pub room : (day : ℕ) (command : Command) (s : State) (people : People) → AllPass (row_tests day s people command) → makes_paper command ≡ true →
    nat_le most_papers s.papers ≡ false
room day (Return text) s people p e = p.1.0
room day (Resubmit text) s people p e = p.1.0
room day (Reject text) s people p e = p.1.0
room day Issue s people p e = p.1.0
room day (AskExtension days text) s people p e = p.1.1.1.0
room day GrantExtension s people p e = p.1.1.0
room day (RefuseExtension text) s people p e = p.1.1.0
room day (Notice text) s people p e = p.1.1.0
room day (Stop text conditions) s people p e = p.1.1.0
room day Lift s people p e = p.1.1.0
room day (Revoke text) s people p e = p.1.0
room day (Temporary days text) s people p e = p.1.1.1.1.1.0
room day Certify s people p e = p.1.1.1.0
room day _ s people p e = cc

-- ---- all papers

-- what each paper passes, each passes afterwards, where the new one does and a closed one does
pub all_with : (test : Paper → Bool) (id number day author days : ℕ) (command : Command) (o : Option PaperSort) (cleared : Option ℕ) (ps : List Paper) →
    ((p : Paper) → test p ≡ true → test (record p { is_open = false }) ≡ true) →
    if_paper test (option_map (paper_entered id number day author days command) o) ≡ true → list_all test ps ≡ true →
    list_all test (papers_with id number day author days command o cleared ps) ≡ true
all_with test id number day author days command (Some s) cleared ps closes new all =
    list_all-append test ps (paper_entered id number day author days command s ∷ []) ∙ and_from _ _ all (and_from _ _ new refl)
all_with test id number day author days command None (Some n) ps closes new all =
    list_all-map test (closed_by id n) ps ∙ all_more test (λ p. test (closed_by id n p)) ps (λ p e. closed_passes test id n p (closes p) e) all
all_with test id number day author days command None None ps closes new all = all
