-- A row is found by its text through the place to which its mark leads.
use Rattle.std.proofs.Common.{◌≡◌, ◌<◌, ◌≤◌, ℕ, zero, suc, ◌+◌, ◌==◌, Bool, true, false, cond, List, [], ◌∷◌, ◌++◌, length, find, get_or, set, refl, sym, ◌∙◌}
use Rattle.std.proofs.Common.{ap, arith}
use Rattle.std.specs.Prelude.{Option, Some, None, bytes_eq, nat_eq}
use Rattle.std.specs.List.{position_from}
use Rattle.std.specs.HashMap.{HashMap, get}
use Rattle.std.proofs.lemmas.Bool.Decides.{nat_tests}
use Rattle.std.proofs.lemmas.Slice.Eq.{bytes_eq-Decides}
use Rattle.permit_store.specs.Places.{mark_of, first_marked, LeadToFirst, led_after}

-- ---- the first row that passes

more_either : (b here : Bool) (place last : ℕ) (later before : Option ℕ) → later ≡ led_after before here last →
    cond b (Some place) later ≡ led_after (cond b (Some place) before) here last
more_either true here place last later before e = refl
more_either false here place last later before e = e

-- one more row after the others
first_more : {A : Type 0} (test : A → Bool) (place last : ℕ) (rows : List A) (row : A) → last ≡ place + length rows →
    position_from test place (rows ++ row ∷ []) ≡ led_after (position_from test place rows) (test row) last
first_more test place last [] row e =
    let same : place ≡ last = omega (arith, e) in
    ap (λ n. cond (test row) (Some n) None) same
first_more test place last (first ∷ rows) row e =
    more_either (test first) (test row) place last (position_from test (place + 1) (rows ++ row ∷ [])) (position_from test (place + 1) rows)
    (first_more test (place + 1) last rows row (omega (arith, e)))

-- another row in the place of one, which passes where that did
first_set : {A : Type 0} (test : A → Bool) (first : ℕ) (rows : List A) (i : ℕ) (d new : A) → test new ≡ test (get_or rows i d) →
    position_from test first (set rows i new) ≡ position_from test first rows
first_set test first [] i d new e = refl
first_set test first (row ∷ rows) zero d new e = ap (λ b. cond b (Some first) (position_from test (first + 1) rows)) e
first_set test first (row ∷ rows) (suc i) d new e = ap (λ o. cond (test row) (Some first) o) (first_set test (first + 1) rows i d new e)

-- the place is one from the first on
from_either : (b : Bool) (first place : ℕ) (later : Option ℕ) → (later ≡ Some place → first + 1 ≤ place) → cond b (Some first) later ≡ Some place →
    first ≤ place
from_either true first place later rest e =
    let same : first ≡ place = cc in
    omega (arith, same)
from_either false first place later rest e = omega (arith, rest e)

first_from : {A : Type 0} (test : A → Bool) (first place : ℕ) (rows : List A) → position_from test first rows ≡ Some place → first ≤ place
first_from test first place [] e = cc
first_from test first place (row ∷ rows) e =
    from_either (test row) first place (position_from test (first + 1) rows) (first_from test (first + 1) place rows) e

-- and there is a row there
within_either : (b : Bool) (first place count : ℕ) (later : Option ℕ) → (later ≡ Some place → place < first + 1 + count) →
    cond b (Some first) later ≡ Some place →
    place < first + suc count
within_either true first place count later rest e =
    let same : first ≡ place = cc in
    omega (arith, same)
within_either false first place count later rest e = omega (arith, rest e)

first_within : {A : Type 0} (test : A → Bool) (first place : ℕ) (rows : List A) → position_from test first rows ≡ Some place → place < first + length rows
first_within test first place [] e = cc
first_within test first place (row ∷ rows) e =
    within_either (test row) first place (length rows) (position_from test (first + 1) rows) (first_within test (first + 1) place rows) e

module _ {A : Type 0} (test wanted : A → Bool) (marked : (row : A) → wanted row ≡ true → test row ≡ true) where
  unwanted_either : (b : Bool) (row : A) → wanted row ≡ b → test row ≡ false → b ≡ false
  unwanted_either true row w e = let on = marked row w in cc
  unwanted_either false row w e = refl

  -- what doesn't pass isn't wanted
  unwanted : (row : A) → test row ≡ false → wanted row ≡ false
  unwanted row e = unwanted_either (wanted row) row refl e

  nowhere_either : (b : Bool) (place : ℕ) (row : A) (later : Option ℕ) (found : Option A) → test row ≡ b → (later ≡ None → found ≡ None) →
      cond b (Some place) later ≡ None → cond (wanted row) (Some row) found ≡ None
  nowhere_either true place row later found t rest e = cc
  nowhere_either false place row later found t rest e = ap (λ b. cond b (Some row) found) (unwanted row t) ∙ rest e

  -- where none passes, none is wanted
  none_wanted : (place : ℕ) (rows : List A) → position_from test place rows ≡ None → find wanted rows ≡ None
  none_wanted place [] e = refl
  none_wanted place (row ∷ rows) e =
      nowhere_either (test row) place row (position_from test (place + 1) rows) (find wanted rows) refl (none_wanted (place + 1) rows) e

  there_either : (b : Bool) (first place : ℕ) (row there : A) (later : Option ℕ) (found : Option A) → test row ≡ b →
      (later ≡ Some (first + 1 + place) → found ≡ Some there) →
      cond b (Some first) later ≡ Some (first + suc place) → cond (wanted row) (Some row) found ≡ Some there
  there_either true first place row there later found t rest e =
      let same : first ≡ first + suc place = cc in
      absurd (omega (arith, same))
  there_either false first place row there later found t rest e =
      let next : first + suc place ≡ first + 1 + place = omega arith in
      ap (λ b. cond b (Some row) found) (unwanted row t) ∙ rest (e ∙ ap (λ n. Some n) next)

  -- where the first that passes is wanted, it is the first that is wanted
  first_wanted : (first place : ℕ) (rows : List A) (d : A) → position_from test first rows ≡ Some (first + place) → wanted (get_or rows place d) ≡ true →
      place < length rows → find wanted rows ≡ Some (get_or rows place d)
  first_wanted first place [] d e w h = absurd (omega arith)
  first_wanted first zero (row ∷ rows) d e w h = ap (λ b. cond b (Some row) (find wanted rows)) w
  first_wanted first (suc place) (row ∷ rows) d e w h =
      there_either (test row) first place row (get_or rows place d) (position_from test (first + 1) rows) (find wanted rows) refl
      (λ later. first_wanted (first + 1) place rows d later w (omega arith)) e

-- ---- marks

module _ {A S : Type 0} (text : A → List ℕ) (rows : List A) (marks : HashMap ℕ ℕ S) (led : LeadToFirst text rows marks) where
  -- one more row after the others
  pub led_more : (later : HashMap ℕ ℕ S) (row : A) (mark : ℕ) → mark ≡ mark_of (text row) →
      ((m : ℕ) → get nat_eq later m ≡ led_after (get nat_eq marks m) (mark == m) (length rows)) → LeadToFirst text (rows ++ row ∷ []) later
  led_more later row mark is put = λ m.
      put m ∙ ap (λ o. led_after o (mark == m) (length rows)) (led m) ∙ ap (λ n. led_after (first_marked text m 0 rows) (n == m) (length rows)) is
      ∙ sym (first_more (λ row. mark_of (text row) == m) 0 (length rows) rows row (omega arith))

  -- another row in the place of one, with its text
  pub led_set : (i : ℕ) (d new : A) → text new ≡ text (get_or rows i d) → LeadToFirst text (set rows i new) marks
  led_set i d new e = λ m. led m ∙ sym (first_set (λ row. mark_of (text row) == m) 0 rows i d new (ap (λ (bytes : List ℕ). mark_of bytes == m) e))

  module _ (key : List ℕ) (mark : ℕ) (is : mark ≡ mark_of key) where
    -- a row with the text has its mark
    alike : (row : A) → bytes_eq (text row) key ≡ true → (mark_of (text row) == mark) ≡ true
    alike row e =
        let same : mark_of (text row) ≡ mark = ap mark_of ((bytes_eq-Decides (text row) key).0 e) ∙ sym is in
        grind (arith, nat_tests)

    -- a mark that leads nowhere is that of no row
    pub no_row : get nat_eq marks mark ≡ None → find (λ row. bytes_eq (text row) key) rows ≡ None
    no_row e = none_wanted (λ row. mark_of (text row) == mark) (λ row. bytes_eq (text row) key) alike 0 rows (sym (led mark) ∙ e)

    -- where it leads there is a row
    pub row_within : (place : ℕ) → get nat_eq marks mark ≡ Some place → place < length rows
    row_within place e =
        let within = first_within (λ row. mark_of (text row) == mark) 0 place rows (sym (led mark) ∙ e) in
        omega (arith, within)

    -- and if that row has the text, it is the first that does
    pub row_there : (place : ℕ) (d : A) → get nat_eq marks mark ≡ Some place → bytes_eq (text (get_or rows place d)) key ≡ true →
        find (λ row. bytes_eq (text row) key) rows ≡ Some (get_or rows place d)
    row_there place d e w =
        let there : first_marked text mark 0 rows ≡ Some (0 + place) = sym (led mark) ∙ e ∙ ap (λ n. Some n) (omega arith) in
        first_wanted (λ row. mark_of (text row) == mark) (λ row. bytes_eq (text row) key) alike 0 place rows d there w (row_within place e)
