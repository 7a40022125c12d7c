-- The tallies of the files before their papers are read.
use Rattle.std.proofs.Common.{◌≡◌, ℕ, zero, suc, ◌+◌, ◌≤◌, Bool, true, eqb, List, [], ◌∷◌, map, filter, length, refl, sym, ap, subst}
use Rattle.std.proofs.Common.{◌∙◌, arith, IsPermutation}
use Rattle.std.specs.Prelude.{◌&&◌, ◌||◌, ◌==◌, not, nat_le, Some, slice_get}
use Rattle.std.specs.List.{list_all, AllByRecursion}
use Rattle.std.proofs.lemmas.Bool.{and_parts, and_from, leb-true, le-leb}
use Rattle.sqlite_trees.proofs.ListLemmas.{all-permutation}
use Rattle.std.proofs.lemmas.List.Sorted.{IsPermutation-sym}
use Rattle.sqlite_keyed.proofs.ListLemmas.{IsPermutation-filter}
use Rattle.permit_base.specs.Limits.{most_papers}
use Rattle.permit_model.specs.Numbering.{is_numbered_from}
use Rattle.permit_model.specs.Tables.{Tables, FileRow, Paper, is_notice}
use Rattle.permit_model.specs.Sound
use Rattle.permit_model.specs.Sound.{papers_in, has_file, has_party, never_fall}
use Rattle.permit_sql_rows.specs.Kept.{AreKeyed}
use Rattle.permit_sql_rows.specs.Typed.{IsPaper}
use Rattle.permit_sql.specs.Found.{IsNumbered, IsRising, AreTyped}
use Rattle.permit_sql.specs.Tested.{fits_paper, fits_papers, first_tally, are_left}
use Rattle.permit_sql.specs.declared.tally.Tally.{Tally}
use Rattle.permit_sql.proofs.Opened.{rise_in}
use Rattle.permit_sql.proofs.SameOrder.{same_rising}
use Rattle.permit_sql.proofs.Soundness.{all_true, true_all, all_by_two, all_by_one, among, file_there}
use Rattle.permit_sql.proofs.Tallies.{AreLeft, of_file}

-- the file at a place, and its tally
pub file_at : (fs : List FileRow) (n : ℕ) → IsNumbered (λ f. f.id) n fs → (i : ℕ) (u : Tally) → slice_get (map (λ f. first_tally f.state) fs) i ≡ Some u →
    (f : FileRow) × (slice_get fs i ≡ Some f) × (u ≡ first_tally f.state) × (f.id ≡ n + i)
file_at [] n up i u got = absurd (let e = got in cc)
file_at (f ∷ fs) n up zero u got = let e : n ≡ n + 0 = omega arith in (f, refl, cc, up.0 ∙ e)
file_at (f ∷ fs) n up (suc i) u got =
    let it = file_at fs (suc n) up.1 i u got in
    let e : suc n + i ≡ n + suc i = omega arith in
    (it.0, it.1, it.2, it.3 ∙ e)

all_at : {A : Type 0} (P : A → Type 0) (xs : List A) → AllByRecursion P xs → (i : ℕ) (x : A) → slice_get xs i ≡ Some x → P x
all_at P [] all i x got = absurd (let e = got in cc)
all_at P (y ∷ ys) all zero x got = let e : y ≡ x = cc in subst P e all.0
all_at P (y ∷ ys) all (suc i) x got = all_at P ys all.1 i x got

each_at : (P : FileRow → Type 0) (fs : List FileRow) (n : ℕ) → IsNumbered (λ f. f.id) n fs →
    ((i : ℕ) (f : FileRow) → slice_get (map (λ f. first_tally f.state) fs) i ≡ Some (first_tally f.state) → f.id ≡ n + i → P f) → AllByRecursion P fs
each_at P [] n up each = tt
each_at P (f ∷ fs) n up each =
    let e : n ≡ n + 0 = omega arith in (
      each 0 f refl (up.0 ∙ e),
      each_at P fs (suc n) up.1 (λ i g got is. let e : suc n + i ≡ n + suc i = omega arith in each (suc i) g got (is ∙ e)),
    )

module _ (t : Tables) (typed : AreTyped t) (keyed : AreKeyed t) (xs : List Paper) (same : IsPermutation t.papers xs) (up : IsRising 0 0 xs)
    (few : list_all (λ (f : FileRow). nat_le f.state.papers most_papers) t.files ≡ true) where
  -- the papers of a file are in one order
  pub in_file : (id : ℕ) → papers_in t id ≡ of_file id xs
  in_file id = same_rising (papers_in t id) (of_file id xs) (keyed.papers id) (rise_in 0 0 xs up id) (IsPermutation-filter (λ p. eqb p.file id) _ _ same)

  abbrev is_filled : FileRow → Bool
  is_filled f = Sound.are_sound_papers_of (papers_in t f.id) f.state && (f.state.notices == length (filter (λ p. p.is_open) (papers_in t f.id)))

  paper_fits : (p : Paper) → IsPaper p → Sound.is_sound_paper t p ≡ true → (fits_paper t.desk.parties t.desk.last p ≡ true) × (p.file ≤ t.desk.files)
  paper_fits p good sound =
      let one = and_parts _ (not p.is_open || is_notice p.sort) sound in
      let two = and_parts _ (Sound.has_sound_terms p) one.0 in
      let three = and_parts _ (Sound.has_sound_text p) two.0 in
      let four = and_parts _ (Sound.has_sound_days p) three.0 in
      let five = and_parts _ (nat_le p.day t.desk.last) four.0 in
      let six = and_parts (has_file t p.file) (has_party t p.author) five.0 in (
        and_from _ _ (and_from _ _
            (and_from _ _ (and_from _ _ (and_from _ _ (sym (among t typed p.author good.author) ∙ six.1) five.1) four.1) three.1) two.1) one.1,
        leb-true p.file t.desk.files (sym (file_there t typed p.file good.file) ∙ six.0),
      )

  fit_paper : (p : Paper) → IsPaper p → (fits_paper t.desk.parties t.desk.last p ≡ true) × (p.file ≤ t.desk.files) → Sound.is_sound_paper t p ≡ true
  fit_paper p good fit =
      let one = and_parts _ (not p.is_open || is_notice p.sort) fit.0 in
      let two = and_parts _ (Sound.has_sound_terms p) one.0 in
      let three = and_parts _ (Sound.has_sound_text p) two.0 in
      let four = and_parts _ (Sound.has_sound_days p) three.0 in
      let five = and_parts (nat_le p.author t.desk.parties) (nat_le p.day t.desk.last) four.0 in
      let file : has_file t p.file ≡ true = file_there t typed p.file good.file ∙ le-leb p.file t.desk.files fit.1 in
      and_from _ _ (and_from _ _
      (and_from _ _ (and_from _ _ (and_from _ _ (and_from _ _ file (among t typed p.author good.author ∙ five.0)) five.1) four.1) three.1)
      two.1) one.1

  left_of : (f : FileRow) (i : ℕ) → f.id ≡ suc i → is_filled f ≡ true → are_left (first_tally f.state) (of_file (suc i) xs) ≡ true
  left_of f i id filled =
      let here : papers_in t f.id ≡ of_file (suc i) xs = in_file f.id ∙ ap (λ n. of_file n xs) id in
      let ps = of_file (suc i) xs in
      let whole : (Sound.are_sound_papers_of ps f.state && (f.state.notices == length (filter (λ p. p.is_open) ps))) ≡ true =
      subst (λ l. (Sound.are_sound_papers_of l f.state && (f.state.notices == length (filter (λ p. p.is_open) l))) ≡ true) here filled in
      let one = and_parts (Sound.are_sound_papers_of ps f.state) _ whole in
      let two = and_parts _ (never_fall f.state.filed (map (λ p. p.day) ps)) one.0 in
      let three = and_parts _ (is_numbered_from (λ (p : Paper). p.number) 1 ps) two.0 in
      let four = and_parts (f.state.papers == length ps) (nat_le f.state.papers most_papers) three.0 in
      let long : length ps ≡ 0 + length ps = omega arith in
      and_from _ _ (and_from _ _ (and_from _ _ (subst (λ n. (f.state.papers == n) ≡ true) long four.0) one.1) three.1) two.1

  of_left : (f : FileRow) (i : ℕ) → f.id ≡ suc i → nat_le f.state.papers most_papers ≡ true → are_left (first_tally f.state) (of_file (suc i) xs) ≡ true →
      is_filled f ≡ true
  of_left f i id low left =
      let here : papers_in t f.id ≡ of_file (suc i) xs = in_file f.id ∙ ap (λ n. of_file n xs) id in
      let ps = of_file (suc i) xs in
      let one = and_parts _ (never_fall f.state.filed (map (λ p. p.day) ps)) left in
      let two = and_parts _ (is_numbered_from (λ (p : Paper). p.number) 1 ps) one.0 in
      let three = and_parts (f.state.papers == 0 + length ps) (f.state.notices == length (filter (λ p. p.is_open) ps)) two.0 in
      let long : 0 + length ps ≡ length ps = omega arith in
      let whole : (Sound.are_sound_papers_of ps f.state && (f.state.notices == length (filter (λ p. p.is_open) ps))) ≡ true =
      and_from _ _ (and_from _ _ (and_from _ _ (and_from _ _ (subst (λ n. (f.state.papers == n) ≡ true) long three.0) low) two.1) one.1) three.1 in
      subst (λ l. (Sound.are_sound_papers_of l f.state && (f.state.notices == length (filter (λ p. p.is_open) l))) ≡ true) (sym here) whole

  abbrev tallies : List Tally
  tallies = map (λ (f : FileRow). first_tally f.state) t.files

  pub left_first : fits_papers t ≡ true → AreLeft t.desk.parties t.desk.last t.desk.files tallies xs
  left_first fit =
      let parts = and_parts (list_all (Sound.is_sound_paper t) t.papers) (list_all is_filled t.files) fit in
      let each = all-permutation (λ p. (fits_paper t.desk.parties t.desk.last p ≡ true) × (p.file ≤ t.desk.files)) t.papers xs same
      (all_by_two paper_fits t.papers typed.papers (all_true (Sound.is_sound_paper t) t.papers parts.0)) in
      let filled = all_true is_filled t.files parts.1 in
      record {
        alone = all_by_one (λ p h. h.0) xs each;
        there = all_by_one (λ p h. h.1) xs each;
        left = λ i u got.
            let it = file_at t.files 1 typed.file_numbers i u got in
            let id : it.0.id ≡ suc i = let e = it.3 in omega (arith, e) in
            subst (λ w. are_left w (of_file (suc i) xs) ≡ true) (sym it.2) (left_of it.0 i id (all_at (λ f. is_filled f ≡ true) t.files filled i it.0 it.1));
      }

  pub first_left : AreLeft t.desk.parties t.desk.last t.desk.files tallies xs → fits_papers t ≡ true
  first_left left =
      let each = all_by_two (λ p a b. (a, b)) xs left.alone left.there in
      let back = all-permutation (λ p. (fits_paper t.desk.parties t.desk.last p ≡ true) × (p.file ≤ t.desk.files)) xs t.papers
      (IsPermutation-sym _ _ same) each in
      let filled = each_at (λ f. nat_le f.state.papers most_papers ≡ true → is_filled f ≡ true) t.files 1 typed.file_numbers (λ i f got is low.
      let id : f.id ≡ suc i = omega (arith, is) in
      of_left f i id low (left.left i (first_tally f.state) got)) in
      and_from _ _ (true_all (Sound.is_sound_paper t) t.papers (all_by_two fit_paper t.papers typed.papers back))
      (true_all is_filled t.files (all_by_two (λ f low is. is low) t.files (all_true (λ (f : FileRow). nat_le f.state.papers most_papers) t.files few) filled))
