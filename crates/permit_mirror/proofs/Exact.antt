-- What is found among the files of a cover is all that is found.
use Rattle.std.proofs.Common.{◌≡◌, ◌<◌, ◌≤◌, ℕ, ◌+◌, ◌==◌, Bool, true, false, cond, List, [], ◌∷◌, ◌++◌, map, filter, find, refl, sym, ◌∙◌, ap, subst, arith}
use Rattle.std.specs.Prelude.{◌⊎◌, ◌||◌, Some, option_to_list}
use Rattle.std.specs.List.{AllByRecursion, list_any}
use Rattle.std.proofs.Common.{inl, inr}
use Rattle.std.proofs.lemmas.Bool.{eqb-true, eq-eqb}
use Rattle.std.proofs.lemmas.Bool.Decides.{nat_tests}
use Rattle.permit_base.specs.declared.route.Route.{Route}
use Rattle.permit_model.specs.Numbering.{IsNumberedFrom}
use Rattle.permit_model.specs.Routes.{Found, found_row}
use Rattle.permit_model.specs.Tables.{FileRow, Tables}
use Rattle.permit_store.specs.Handing.{is_found_by_any, found_by_any}
use Rattle.permit_mirror.specs.Pairs.{RiseFrom}
use Rattle.permit_mirror.specs.Search.{found_at}

-- the number is among these
abbrev pub is_in : List ℕ → ℕ → Bool
is_in numbers n = list_any (λ m. m == n) numbers

different : (a b : ℕ) → a < b → (a == b) ≡ false
different a b h = grind (arith, nat_tests)

different_up : (a b : ℕ) → b < a → (a == b) ≡ false
different_up a b h = grind (arith, nat_tests)

module _ (p : Found → Bool) (g : FileRow → Found) where
  -- what passes the test of the row of one number
  abbrev pub one_of : List FileRow → ℕ → List Found
  one_of files n = filter p (map g (option_to_list (find (λ (f : FileRow). f.id == n) files)))

  -- what passes it of the rows of these
  abbrev pub some_of : List FileRow → List ℕ → List Found
  some_of files [] = []
  some_of files (n ∷ numbers) = one_of files n ++ some_of files numbers

  -- what passes it
  abbrev pub all_of : List FileRow → List Found
  all_of files = filter p (map g files)

  -- each row that passes has its number among these
  abbrev pub AreAmongNumbers : List ℕ → List FileRow → Type 0
  AreAmongNumbers numbers files = AllByRecursion (λ (f : FileRow). p (g f) ≡ true → is_in numbers f.id ≡ true) files

  none_of_none : (numbers : List ℕ) → some_of [] numbers ≡ []
  none_of_none [] = refl
  none_of_none (n ∷ numbers) = none_of_none numbers

  unpassed : (f : FileRow) (files : List FileRow) (b : Bool) → p (g f) ≡ b → (p (g f) ≡ true → false ≡ true) → all_of files ≡ [] → cond b (g f ∷ all_of files) (all_of files) ≡ []
  unpassed f files true e h rest = cc (h e)
  unpassed f files false e h rest = rest

  -- where there are no numbers nothing passes
  none_among : (files : List FileRow) → AreAmongNumbers [] files → all_of files ≡ []
  none_among [] all = refl
  none_among (f ∷ files) all =
      let rest = none_among files all.1 in
      unpassed f files (p (g f)) refl all.0 rest

  -- a row of a lesser number isn't looked at
  skipped : (f : FileRow) (files : List FileRow) (k : ℕ) (numbers : List ℕ) → f.id < k → RiseFrom k numbers → some_of (f ∷ files) numbers ≡ some_of files numbers
  skipped f files k [] h rise = refl
  skipped f files k (n ∷ numbers) h rise =
      let before : f.id < n = omega (arith, h, rise.0) in
      ap (λ b. filter p (map g (option_to_list (cond b (Some f) (find (λ (f : FileRow). f.id == n) files)))) ++ some_of (f ∷ files) numbers) (different f.id n before)
      ∙ ap (λ rest. one_of files n ++ rest) (skipped f files (n + 1) numbers (omega (arith, before)) rise.1)

  -- a number below all of these is none of them
  not_in : (n k : ℕ) (numbers : List ℕ) → n < k → RiseFrom k numbers → is_in numbers n ≡ false
  not_in n k [] h rise = refl
  not_in n k (m ∷ numbers) h rise =
      let before : n < m = omega (arith, h, rise.0) in
      ap (λ b. b || is_in numbers n) (different_up m n before) ∙ not_in n (m + 1) numbers (omega (arith, before)) rise.1

  -- the first number is that of no later file
  behind : (n k : ℕ) (numbers : List ℕ) (files : List FileRow) → n < k → IsNumberedFrom (λ (f : FileRow). f.id) k files → AreAmongNumbers (n ∷ numbers) files →
      AreAmongNumbers numbers files
  behind n k numbers [] h numbered all = tt
  behind n k numbers (f ∷ files) h numbered all =
      let before : n < f.id = omega (arith, h, numbered.0) in
      (λ e. ap (λ b. b || is_in numbers f.id) (sym (different n f.id before)) ∙ all.0 e, behind n (k + 1) numbers files (omega (arith, h)) numbered.1 all.1)

  -- no file has a number below the first
  none_before : (n k : ℕ) (files : List FileRow) → n < k → IsNumberedFrom (λ (f : FileRow). f.id) k files → one_of files n ≡ []
  none_before n k [] h numbered = refl
  none_before n k (f ∷ files) h numbered =
      let before : n < f.id = omega (arith, h, numbered.0) in
      ap (λ b. filter p (map g (option_to_list (cond b (Some f) (find (λ (f : FileRow). f.id == n) files))))) (different_up f.id n before)
      ∙ none_before n (k + 1) files (omega (arith, h)) numbered.1

  passed_first : (f : FileRow) (files : List FileRow) (rest : List Found) (b : Bool) → p (g f) ≡ b → rest ≡ all_of files →
      cond b (g f ∷ []) [] ++ rest ≡ cond b (g f ∷ all_of files) (all_of files)
  passed_first f files rest true e same = ap (λ found. g f ∷ found) same
  passed_first f files rest false e same = same

  failed_first : (f : FileRow) (files : List FileRow) (rest : List Found) (b : Bool) → p (g f) ≡ b → (p (g f) ≡ true → false ≡ true) → rest ≡ all_of files →
      rest ≡ cond b (g f ∷ all_of files) (all_of files)
  failed_first f files rest true e h same = cc (h e)
  failed_first f files rest false e h same = same

  at_first : (a k : ℕ) → k ≤ a → (b : Bool) → (a == k) ≡ b → (a ≡ k) ⊎ (k + 1 ≤ a)
  at_first a k h true e = inl (eqb-true a k e)
  at_first a k h false e = inr (grind (arith, nat_tests))

  -- what passes of the rows of numbers among which are all that pass
  pub some_are_all : (k : ℕ) (files : List FileRow) (numbers : List ℕ) → IsNumberedFrom (λ (f : FileRow). f.id) k files → RiseFrom k numbers → AreAmongNumbers numbers files →
      some_of files numbers ≡ all_of files
  some_are_all k [] numbers numbered rise all = none_of_none numbers
  some_are_all k (f ∷ files) [] numbered rise all = sym (none_among (f ∷ files) all)
  some_are_all k (f ∷ files) (n ∷ numbers) numbered rise all = elim (at_first n k rise.0 (n == k) refl) [
    | inl e ↦
        let here : (f.id == n) ≡ true = eq-eqb f.id n (numbered.0 ∙ sym e) in
        let later : RiseFrom (k + 1) numbers = subst (λ m. RiseFrom (m + 1) numbers) e rise.1 in
        let rest : some_of (f ∷ files) numbers ≡ all_of files = skipped f files (k + 1) numbers (omega (arith, numbered.0)) later
        ∙ some_are_all (k + 1) files numbers numbered.1 later (behind n (k + 1) numbers files (omega (arith, e)) numbered.1 all.1) in
        ap (λ b. filter p (map g (option_to_list (cond b (Some f) (find (λ (f : FileRow). f.id == n) files)))) ++ some_of (f ∷ files) numbers) here
        ∙ passed_first f files (some_of (f ∷ files) numbers) (p (g f)) refl rest
    | inr h ↦
        let later : RiseFrom (k + 1) (n ∷ numbers) = (h, rise.1) in
        let rest : some_of (f ∷ files) (n ∷ numbers) ≡ all_of files = skipped f files (k + 1) (n ∷ numbers) (omega (arith, numbered.0)) later
        ∙ some_are_all (k + 1) files (n ∷ numbers) numbered.1 later all.1 in
        failed_first f files (some_of (f ∷ files) (n ∷ numbers)) (p (g f)) refl
        (λ e. sym (not_in f.id (k + 1) (n ∷ numbers) (omega (arith, numbered.0)) later) ∙ all.0 e) rest
  ]

  from_first : (files : List FileRow) (n : ℕ) (numbers : List ℕ) → IsNumberedFrom (λ (f : FileRow). f.id) 1 files → RiseFrom (n + 1) numbers → AreAmongNumbers (n ∷ numbers) files
      → (n ≡ 0) ⊎ (0 + 1 ≤ n) → some_of files (n ∷ numbers) ≡ all_of files
  from_first files n numbers numbered rise all (inl e) =
      let later : RiseFrom 1 numbers = subst (λ m. RiseFrom (m + 1) numbers) e rise in
      ap (λ found. found ++ some_of files numbers) (none_before n 1 files (omega (arith, e)) numbered)
      ∙ some_are_all 1 files numbers numbered later (behind n 1 numbers files (omega (arith, e)) numbered all)
  from_first files n numbers numbered rise all (inr h) = some_are_all 1 files (n ∷ numbers) numbered (h, rise) all

  pub from_any : (files : List FileRow) (numbers : List ℕ) → IsNumberedFrom (λ (f : FileRow). f.id) 1 files → RiseFrom 0 numbers → AreAmongNumbers numbers files →
      some_of files numbers ≡ all_of files
  from_any files [] numbered rise all = some_are_all 1 files [] numbered tt all
  from_any files (n ∷ numbers) numbered rise all = from_first files n numbers numbered rise.1 all (at_first n 0 rise.0 (n == 0) refl)

as_some : (routes : List Route) (caller day : ℕ) (t : Tables) (numbers : List ℕ) → found_at routes caller day t numbers
    ≡ some_of (is_found_by_any routes caller day) (found_row t caller) t.files numbers
as_some routes caller day t [] = refl
as_some routes caller day t (n ∷ numbers) =
    ap (λ rest. one_of (is_found_by_any routes caller day) (found_row t caller) t.files n ++ rest) (as_some routes caller day t numbers)

-- what is found among the files of numbers among which are all that are found
pub exact : (routes : List Route) (caller day : ℕ) (t : Tables) (numbers : List ℕ) → IsNumberedFrom (λ (f : FileRow). f.id) 1 t.files → RiseFrom 0 numbers
    → AreAmongNumbers (is_found_by_any routes caller day) (found_row t caller) numbers t.files → found_at routes caller day t numbers ≡ found_by_any routes caller day t
exact routes caller day t numbers numbered rise all =
    as_some routes caller day t numbers ∙ from_any (is_found_by_any routes caller day) (found_row t caller) t.files numbers numbered rise all
