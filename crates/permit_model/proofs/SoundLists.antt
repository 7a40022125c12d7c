-- Tests of lists: those that stay where the list grows, and those that are decided by facts of the items.
use Rattle.std.proofs.Common.{arith, ◌≡◌, ◌≤◌, ℕ, ◌+◌, Bool, true, false, not, cond, List, [], ◌∷◌, ◌++◌, refl}
use Rattle.std.specs.Prelude.{Option, Some, is_some, option_map, find}
use Rattle.std.specs.List.{list_all, All}
use Rattle.std.proofs.lemmas.Bool.{eq-eqb, le-leb, and_from, and_parts}
use Rattle.std.proofs.lemmas.List.Folds.{list_all-append}
use Rattle.std.proofs.lemmas.List.Sums.{list_all-from_AllPass}
use Rattle.permit_base.specs.Limits.{is_between}
use Rattle.permit_model.specs.Search.{add_last}
use Rattle.permit_model.specs.Numbering.{IsNumberedFrom, is_numbered_from}
use Rattle.permit_model.specs.Sound.{if_any}

-- ---- numbers

pub between : (low high n : ℕ) → low ≤ n → n ≤ high → is_between low high n ≡ true
between low high n f g = and_from _ _ (le-leb low n f) (le-leb n high g)

pub between_later : (low high higher n : ℕ) → high ≤ higher → is_between low high n ≡ true → is_between low higher n ≡ true
between_later low high higher n more e = grind arith

-- what a passed test denies doesn't hold
pub passed_not : (b : Bool) → not b ≡ false → b ≡ true
passed_not b e = grind arith

-- what is said by a fact is said by the test
pub numbered_test : {A : Type 0} (number : A → ℕ) (first : ℕ) (xs : List A) → IsNumberedFrom number first xs → is_numbered_from number first xs ≡ true
numbered_test number first [] numbered = refl
numbered_test number first (x ∷ xs) numbered = and_from _ _ (eq-eqb (number x) first numbered.0) (numbered_test number (first + 1) xs numbered.1)

-- ---- a number that is there

pub mapped_there : {A B : Type 0} (f : A → B) (o : Option A) → is_some (option_map f o) ≡ is_some o
mapped_there f o = grind arith

pub any_from : (test : ℕ → Bool) (o : Option ℕ) → ((n : ℕ) → o ≡ Some n → test n ≡ true) → if_any test o ≡ true
any_from test o each = grind arith

pub any_more : (test more : ℕ → Bool) (o : Option ℕ) → ((n : ℕ) → test n ≡ true → more n ≡ true) → if_any test o ≡ true → if_any more o ≡ true
any_more test more o weaker e = grind arith

-- ---- one item more

pub all_last : {A : Type 0} (test : A → Bool) (xs : List A) (new : Option A) → list_all test xs ≡ true → ((x : A) → new ≡ Some x → test x ≡ true) →
    list_all test (add_last xs new) ≡ true
all_last test xs new all each = grind (arith, list_all-append, and_from)

-- what passes one test passes another
pub all_more : {A : Type 0} (test more : A → Bool) (xs : List A) → ((x : A) → test x ≡ true → more x ≡ true) → list_all test xs ≡ true → list_all more xs ≡ true
all_more test more [] weaker all = refl
all_more test more (x ∷ xs) weaker all =
    let parts = and_parts (test x) (list_all test xs) all in
    and_from _ _ (weaker x parts.0) (all_more test more xs weaker parts.1)

-- what passes two tests passes a third
pub all_two : {A : Type 0} (one two three : A → Bool) (xs : List A) → ((x : A) → one x ≡ true → two x ≡ true → three x ≡ true) → list_all one xs ≡ true →
    list_all two xs ≡ true → list_all three xs ≡ true
all_two one two three [] both a b = refl
all_two one two three (x ∷ xs) both a b =
    let first = and_parts (one x) (list_all one xs) a in
    let second = and_parts (two x) (list_all two xs) b in
    and_from _ _ (both x first.0 second.0) (all_two one two three xs both first.1 second.1)

-- what holds of all passes the test
pub all_passing : {A : Type 0} (test : A → Bool) (xs : List A) → All (λ x. test x ≡ true) xs → list_all test xs ≡ true
all_passing test xs all = list_all-from_AllPass test xs all

stays_by : {A : Type 0} (x : A) (b : Bool) (rest more : Option A) (y : A) → cond b (Some x) rest ≡ Some y → (rest ≡ Some y → more ≡ Some y) →
    cond b (Some x) more ≡ Some y
stays_by x b rest more y e ih = grind arith

-- what is found is found in a longer list
pub found_front : {A : Type 0} (test : A → Bool) (xs ys : List A) (y : A) → find test xs ≡ Some y → find test (xs ++ ys) ≡ Some y
found_front test [] ys y e = cc
found_front test (x ∷ xs) ys y e = stays_by x (test x) (find test xs) (find test (xs ++ ys)) y e (found_front test xs ys y)

pub found_last : {A : Type 0} (test : A → Bool) (xs : List A) (new : Option A) (y : A) → find test xs ≡ Some y → find test (add_last xs new) ≡ Some y
found_last test xs new y e = grind (arith, found_front)

there_by : {A : Type 0} (test : A → Bool) (xs : List A) (new : Option A) (o : Option A) → find test xs ≡ o → is_some o ≡ true →
    is_some (find test (add_last xs new)) ≡ true
there_by test xs new o e there = grind (arith, found_last)

pub there_last : {A : Type 0} (test : A → Bool) (xs : List A) (new : Option A) → is_some (find test xs) ≡ true → is_some (find test (add_last xs new)) ≡ true
there_last test xs new there = there_by test xs new (find test xs) refl there
