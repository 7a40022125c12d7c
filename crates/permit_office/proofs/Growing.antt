-- Lists that have an item more, or whose items are changed and keep their numbers.
use Rattle.std.proofs.Common.{◌≡◌, ◌<◌, ℕ, ◌+◌, Bool, true, false, cond, ◌==◌, List, [], ◌∷◌, ◌++◌, map, length, refl, sym, ◌∙◌, ap, arith}
use Rattle.std.specs.Prelude.{Some, is_some, find, ◌&&◌, if◌then◌else◌, unwrap_or}
use Rattle.std.specs.List.{list_all}
use Rattle.std.proofs.lemmas.Bool.{eq-eqb, eqb-true, ne_eqb, and_from, and_parts}
use Rattle.std.proofs.lemmas.List.Folds.{list_all-append}
use Rattle.permit_model.specs.Numbering.{is_numbered_from}
use Rattle.permit_model.specs.Tables.{State, FileRow}
use Rattle.permit_model.proofs.Lists.{find_mapped}
use Rattle.permit_model.proofs.SoundLists.{mapped_there}
use Rattle.permit_store.specs.Changes.{with_state}

-- ---- an item more

pub numbered_more : {A : Type 0} (number : A → ℕ) (first : ℕ) (xs : List A) (x : A) → number x ≡ first + length xs →
    is_numbered_from number first xs ≡ true → is_numbered_from number first (xs ++ x ∷ []) ≡ true
numbered_more number first [] x e numbered = and_from _ _ (eq-eqb (number x) first (omega (arith, e))) refl
numbered_more number first (y ∷ ys) x e numbered =
    let parts = and_parts (number y == first) (is_numbered_from number (first + 1) ys) numbered in
    and_from _ _ parts.0 (numbered_more number (first + 1) ys x (omega (arith, e)) parts.1)

pub all_and : {A : Type 0} (test : A → Bool) (xs : List A) (x : A) → list_all test xs ≡ true → test x ≡ true → list_all test (xs ++ x ∷ []) ≡ true
all_and test xs x all e = list_all-append test xs (x ∷ []) ∙ and_from _ _ all (and_from _ _ e refl)

-- what all pass, one that is found passes
pub found_passes : {A : Type 0} (test which : A → Bool) (xs : List A) (x : A) → list_all test xs ≡ true → find which xs ≡ Some x → test x ≡ true
found_passes test which [] x all found = cc
found_passes test which (y ∷ ys) x all found =
    let parts = and_parts (test y) (list_all test ys) all in
    by (which y) found parts.0 (found_passes test which ys x parts.1)
  where
    by : (b : Bool) → cond b (Some y) (find which ys) ≡ Some x → test y ≡ true → (find which ys ≡ Some x → test x ≡ true) → test x ≡ true
    by true found e ih = ap test (sym (ap (λ o. unwrap_or o y) found)) ∙ e
    by false found e ih = ih found

-- ---- items that are changed

pub numbered_same : {A : Type 0} (number : A → ℕ) (f : A → A) → ((x : A) → number (f x) ≡ number x) → (first : ℕ) (xs : List A) →
    is_numbered_from number first (map f xs) ≡ is_numbered_from number first xs
numbered_same number f same first [] = refl
numbered_same number f same first (x ∷ xs) =
    ap (λ n. (n == first) && is_numbered_from number (first + 1) (map f xs)) (same x)
    ∙ ap (λ b. (number x == first) && b) (numbered_same number f same (first + 1) xs)

pub there_same : {A : Type 0} (number : A → ℕ) (f : A → A) → ((x : A) → number (f x) ≡ number x) → (id : ℕ) (xs : List A) →
    is_some (find (λ x. number x == id) (map f xs)) ≡ is_some (find (λ x. number x == id) xs)
there_same number f same id xs =
    ap is_some (find_mapped f (λ x. number x == id) (λ x. number x == id) (λ x. ap (λ n. n == id) (same x)) xs)
    ∙ mapped_there f (find (λ x. number x == id) xs)

-- ---- files of which one has a new row

pub renewed_id : (id : ℕ) (after : State) (f : FileRow) → (with_state id after f).id ≡ f.id
renewed_id id after f = by (f.id == id)
  where
    by : (b : Bool) → (if b then record f { state = after } else f).id ≡ f.id
    by true = refl
    by false = refl

module _ (test later : FileRow → Bool) (id : ℕ) (after : State) (stays : (f : FileRow) → (f.id == id) ≡ false → test f ≡ true → later f ≡ true) where
  unchanged : (f : FileRow) → (f.id == id) ≡ false → test f ≡ true → later (with_state id after f) ≡ true
  unchanged f other e = ap (λ b. later (if b then record f { state = after } else f)) other ∙ stays f other e

  others : (first : ℕ) (fs : List FileRow) → id < first → is_numbered_from (λ (f : FileRow). f.id) first fs ≡ true → list_all test fs ≡ true →
      list_all later (map (with_state id after) fs) ≡ true
  others first [] below numbered all = refl
  others first (f ∷ fs) below numbered all =
      let n = and_parts (f.id == first) (is_numbered_from (λ (g : FileRow). g.id) (first + 1) fs) numbered in
      let a = and_parts (test f) (list_all test fs) all in
      and_from _ _ (unchanged f (ne_eqb f.id id (omega (arith, below, eqb-true f.id first n.0))) a.0) (others (first + 1) fs (omega (arith, below)) n.1 a.1)

  -- what each row passes, each passes afterwards, where the new row does
  pub all_renewed : (row : FileRow) → (test row ≡ true → later (record row { state = after }) ≡ true) → (first : ℕ) (fs : List FileRow) →
      is_numbered_from (λ (f : FileRow). f.id) first fs ≡ true → find (λ (f : FileRow). f.id == id) fs ≡ Some row → list_all test fs ≡ true →
      list_all later (map (with_state id after) fs) ≡ true
  all_renewed row new first [] numbered found all = cc
  all_renewed row new first (f ∷ fs) numbered found all =
      let n = and_parts (f.id == first) (is_numbered_from (λ (g : FileRow). g.id) (first + 1) fs) numbered in
      let a = and_parts (test f) (list_all test fs) all in
      by (f.id == id) refl (eqb-true f.id first n.0) n.1 a.0 a.1 found (λ there. all_renewed row new (first + 1) fs n.1 there a.1)
    where
      by : (b : Bool) → (f.id == id) ≡ b → f.id ≡ first → is_numbered_from (λ (g : FileRow). g.id) (first + 1) fs ≡ true → test f ≡ true →
          list_all test fs ≡ true → cond b (Some f) (find (λ (g : FileRow). g.id == id) fs) ≡ Some row →
          (find (λ (g : FileRow). g.id == id) fs ≡ Some row → list_all later (map (with_state id after) fs) ≡ true) →
          list_all later (with_state id after f ∷ map (with_state id after) fs) ≡ true
      by true e named numbered passes all found ih =
          let same : f ≡ row = ap (λ o. unwrap_or o f) found in
          and_from _ _ (ap (λ b. later (if b then record f { state = after } else f)) e
          ∙ ap (λ (g : FileRow). later (record g { state = after })) same ∙ new (ap test (sym same) ∙ passes))
          (others (first + 1) fs (omega (arith, named, eqb-true f.id id e)) numbered all)
      by false e named numbered passes all found ih = and_from _ _ (unchanged f e passes) (ih found)
