-- Lists whose numbers rise: two of the same members are one list.
use Rattle.std.proofs.Common.{◌≡◌, ◌<◌, ◌≤◌, ◌⊎◌, inl, inr, ℕ, ◌+◌, List, [], ◌∷◌, map, refl, sym, ◌∙◌, ap, subst, arith}
use Rattle.std.specs.Prelude.{⊤}
use Rattle.std.specs.List.{AllByRecursion, dedup_from}
use Rattle.std.proofs.Common.{◌==◌}
use Rattle.permit_model.specs.History.{History}
use Rattle.permit_model.specs.Files.{CaseFile, case_files}
use Rattle.permit_model.specs.Numbering.{IsNumberedFrom}
use Rattle.permit_model.specs.Tables.{FileRow, file_row, tables}
use Rattle.permit_model.specs.Machine.{IsHistory}
use Rattle.permit_model.proofs.Numbers.{case_files_numbered}
use Rattle.permit_model.proofs.Members.{IsMember, of_member, Covers}
use Rattle.std.specs.Prelude.{Bool, filter}
use Rattle.std.proofs.Common.{cond}

-- the numbers of the items rise
abbrev pub IsRising : {A : Type 0} → (A → ℕ) → List A → Type 0
IsRising number [] = ⊤
IsRising number (x ∷ xs) = AllByRecursion (λ later. number x < number later) xs × IsRising number xs

-- ---- the same members

below : {A : Type 0} (number : A → ℕ) (x y : A) (ys : List A) → AllByRecursion (λ later. number y < number later) ys → (y ≡ x) ⊎ IsMember x ys →
    number y ≤ number x
below number x y ys rising h = grind (arith, of_member)

first_same : {A : Type 0} (number : A → ℕ) (x y : A) (ys : List A) → AllByRecursion (λ later. number y < number later) ys → (y ≡ x) ⊎ IsMember x ys →
    number x ≤ number y → y ≡ x
first_same number x y ys rising h least = grind (arith, of_member)

in_rest : {A : Type 0} (number : A → ℕ) (x y z : A) (ys : List A) → number x < number z → y ≡ x → (y ≡ z) ⊎ IsMember z ys → IsMember z ys
in_rest number x y z ys above e h = grind arith

same_rest : {A : Type 0} (number : A → ℕ) (x y : A) (xs ys : List A) → AllByRecursion (λ later. number x < number later) xs → y ≡ x → Covers (x ∷ xs) (y ∷ ys) →
    Covers xs ys
same_rest number x y xs ys rising e covers = λ z m. in_rest number x y z ys (of_member (λ later. number x < number later) z xs rising m) e (covers z (inr m))

-- by the members themselves
pub same_covered : {A : Type 0} (number : A → ℕ) (xs ys : List A) → IsRising number xs → IsRising number ys → Covers xs ys → Covers ys xs → xs ≡ ys
same_covered number [] [] f g there back = refl
same_covered number [] (y ∷ ys) f g there back = absurd (back y (inl refl))
same_covered number (x ∷ xs) [] f g there back = absurd (there x (inl refl))
same_covered number (x ∷ xs) (y ∷ ys) f g there back =
    let first : y ≡ x = first_same number x y ys g.0 (there x (inl refl)) (below number y x xs f.0 (back y (inl refl))) in
    ap (λ z. z ∷ xs) (sym first) ∙ ap (λ zs. y ∷ zs) (same_covered number xs ys f.1 g.1 (same_rest number x y xs ys f.0 first there)
    (same_rest number y x ys xs g.0 (sym first) back))

-- ---- sorted lists, of which those with the number before them are dropped

-- whether the two have one number
abbrev pub same_number : {A : Type 0} → (A → ℕ) → A → A → Bool
same_number number x y = number x == number y

-- items of one number are one
abbrev pub OneEach : {A : Type 0} → (A → ℕ) → (A → Type 0) → Type 0
OneEach {A} number P = (x y : A) → P x → P y → number x ≡ number y → x ≡ y

kept_by : {A : Type 0} (number : A → ℕ) (P : A → Type 0) → OneEach number P → (k x y : A) (xs : List A) (b : Bool) → same_number number x k ≡ b → P k → P x →
    (k ≡ y) ⊎ ((x ≡ y) ⊎ IsMember y xs) →
    ((k ≡ y) ⊎ IsMember y xs → IsMember y (dedup_from (same_number number) k xs)) →
    ((x ≡ y) ⊎ IsMember y xs → IsMember y (dedup_from (same_number number) x xs)) →
    IsMember y (cond b (dedup_from (same_number number) k xs) (k ∷ dedup_from (same_number number) x xs))
kept_by number P one k x y xs b e here next h ih other = grind arith

-- ---- numbered lists

later_from : {A : Type 0} (number : A → ℕ) (low first : ℕ) (xs : List A) → low < first → IsNumberedFrom number first xs →
    AllByRecursion (λ later. low < number later) xs
later_from number low first [] less numbered = tt
later_from number low first (x ∷ xs) less numbered = (omega (arith, less, numbered.0), later_from number low (first + 1) xs (omega (arith, less)) numbered.1)

-- the numbers of a numbered list rise
pub numbered_rising : {A : Type 0} (number : A → ℕ) (first : ℕ) (xs : List A) → IsNumberedFrom number first xs → IsRising number xs
numbered_rising number first [] numbered = tt
numbered_rising number first (x ∷ xs) numbered = (
  later_from number (number x) (first + 1) xs (omega (arith, numbered.0)) numbered.1,
  numbered_rising number (first + 1) xs numbered.1,
)

mapped_later : {A B : Type 0} (f : A → B) (number : A → ℕ) (named : B → ℕ) → ((x : A) → named (f x) ≡ number x) → (low : ℕ) (xs : List A) →
    AllByRecursion (λ later. low < number later) xs → AllByRecursion (λ later. low < named later) (map f xs)
mapped_later f number named same low [] all = tt
mapped_later f number named same low (x ∷ xs) all = (omega (arith, all.0, same x), mapped_later f number named same low xs all.1)

-- what has the same numbers rises too
pub mapped_rising : {A B : Type 0} (f : A → B) (number : A → ℕ) (named : B → ℕ) → ((x : A) → named (f x) ≡ number x) → (xs : List A) → IsRising number xs →
    IsRising named (map f xs)
mapped_rising f number named same [] rising = tt
mapped_rising f number named same (x ∷ xs) rising = (
  subst (λ n. AllByRecursion (λ later. n < named later) (map f xs)) (sym (same x)) (mapped_later f number named same (number x) xs rising.0),
  mapped_rising f number named same xs rising.1,
)

later_by : {A : Type 0} (P : A → Type 0) (x : A) (kept : List A) (b : Bool) → P x → AllByRecursion P kept → AllByRecursion P (cond b (x ∷ kept) kept)
later_by P x kept b here rest = grind arith

all_filtered : {A : Type 0} (P : A → Type 0) (p : A → Bool) (xs : List A) → AllByRecursion P xs → AllByRecursion P (filter p xs)
all_filtered P p [] all = tt
all_filtered P p (x ∷ xs) all = later_by P x (filter p xs) (p x) all.0 (all_filtered P p xs all.1)

rising_by : {A : Type 0} (number : A → ℕ) (x : A) (kept : List A) (b : Bool) → AllByRecursion (λ later. number x < number later) kept → IsRising number kept →
    IsRising number (cond b (x ∷ kept) kept)
rising_by number x kept b first rest = grind arith

-- a part of a list that rises rises
pub filtered_rising : {A : Type 0} (number : A → ℕ) (p : A → Bool) (xs : List A) → IsRising number xs → IsRising number (filter p xs)
filtered_rising number p [] rising = tt
filtered_rising number p (x ∷ xs) rising = rising_by number x (filter p xs) (p x) (all_filtered (λ later. number x < number later) p xs rising.0)
    (filtered_rising number p xs rising.1)

-- the files of a history rise by their numbers
pub files_rising : (h : History) → IsHistory h → IsRising (λ (f : CaseFile). f.filing.id) (case_files h)
files_rising h is = numbered_rising (λ (f : CaseFile). f.filing.id) 1 (case_files h) (case_files_numbered h is)

-- and so do the rows of the tables
pub rows_rising : (h : History) → IsHistory h → IsRising (λ (row : FileRow). row.id) (tables h).files
rows_rising h is = mapped_rising file_row (λ (f : CaseFile). f.filing.id) (λ (row : FileRow). row.id) (λ f. refl) (case_files h) (files_rising h is)
