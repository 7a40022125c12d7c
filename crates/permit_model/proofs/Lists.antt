-- Lists searched, and lists numbered.
use Rattle.std.proofs.Common.{◌≡◌, ℕ, zero, suc, ◌+◌, ◌==◌, Bool, true, false, cond, List, [], ◌∷◌, ◌++◌, length, refl, ◌∙◌, ap, map, arith}
use Rattle.std.specs.Prelude.{Option, Some, is_some, find, option_map, slice_get, get_or, ◌||◌}
use Rattle.std.specs.List.{list_any, All}
use Rattle.std.proofs.lemmas.Bool.{eq-eqb, ne_eqb}
use Rattle.std.proofs.lemmas.Option.{slice_get-get_or}
use Rattle.permit_model.specs.Numbering.{IsNumberedFrom}

any_found_by : {A : Type 0} (p : A → Bool) (x : A) (xs : List A) (b : Bool) → list_any p xs ≡ is_some (find p xs) →
    (b || list_any p xs) ≡ is_some (cond b (Some x) (find p xs))
any_found_by p x xs b ih = grind arith

-- there is one that passes the test where one is found
pub any_found : {A : Type 0} (p : A → Bool) (xs : List A) → list_any p xs ≡ is_some (find p xs)
any_found p [] = refl
any_found p (x ∷ xs) = any_found_by p x xs (p x) (any_found p xs)

find_mapped_by : {A B : Type 0} (f : A → B) (x : A) (rest : Option A) (other : Option B) (b : Bool) → other ≡ option_map f rest →
    cond b (Some (f x)) other ≡ option_map f (cond b (Some x) rest)
find_mapped_by f x rest other b ih = grind arith

-- what is found in a mapped list
pub find_mapped : {A B : Type 0} (f : A → B) (p : A → Bool) (q : B → Bool) → ((x : A) → q (f x) ≡ p x) → (xs : List A) →
    find q (map f xs) ≡ option_map f (find p xs)
find_mapped f p q same [] = refl
find_mapped f p q same (x ∷ xs) = ap (λ b. cond b (Some (f x)) (find q (map f xs))) (same x)
    ∙ find_mapped_by f x (find p xs) (find q (map f xs)) (p x) (find_mapped f p q same xs)

-- ---- numbered lists

-- one record more, with the next number
pub numbered_last : {A : Type 0} (number : A → ℕ) (first : ℕ) (records : List A) (new : A) → IsNumberedFrom number first records →
    number new ≡ first + length records → IsNumberedFrom number first (records ++ new ∷ [])
numbered_last number first [] new numbered next = (omega (arith, next), tt)
numbered_last number first (x ∷ xs) new numbered next = (numbered.0, numbered_last number (first + 1) xs new numbered.1 (omega (arith, next)))

-- a numbered list, mapped to what has the same numbers
pub numbered_mapped : {A B : Type 0} (f : A → B) (number : A → ℕ) (named : B → ℕ) → ((x : A) → named (f x) ≡ number x) → (first : ℕ) (records : List A) →
    IsNumberedFrom number first records → IsNumberedFrom named first (map f records)
numbered_mapped f number named same first [] numbered = tt
numbered_mapped f number named same first (x ∷ xs) numbered = (same x ∙ numbered.0, numbered_mapped f number named same (first + 1) xs numbered.1)

-- a record is found by its number at its place
pub found_at : {A : Type 0} (number : A → ℕ) (first : ℕ) (records : List A) (place : ℕ) → IsNumberedFrom number first records →
    find (λ x. number x == first + place) records ≡ slice_get records place
found_at number first [] place numbered = refl
found_at number first (y ∷ ys) zero numbered = let here : (number y == first + 0) ≡ true =
    eq-eqb (number y) (first + 0) (omega (arith, numbered.0)) in rw here refl
found_at number first (y ∷ ys) (suc place) numbered =
    let other : (number y == first + suc place) ≡ false = ne_eqb (number y) (first + suc place) (omega (arith, numbered.0)) in
    let same : first + suc place ≡ first + 1 + place = omega arith in
    rw other (ap (λ n. find (λ x. number x == n) ys) same ∙ found_at number (first + 1) ys place numbered.1)

-- what holds of the record at each place holds of all
pub all_at : {A : Type 0} (P : A → Type 0) (records : List A) → ((place : ℕ) (x : A) → slice_get records place ≡ Some x → P x) → All P records
all_at P records each = λ place d inside. each place (get_or records place d) (slice_get-get_or records place d inside)

-- the item at a place of a mapped list
pub slice_get_mapped : {A B : Type 0} (f : A → B) (xs : List A) (place : ℕ) → option_map f (slice_get xs place) ≡ slice_get (map f xs) place
slice_get_mapped f [] place = refl
slice_get_mapped f (x ∷ xs) zero = refl
slice_get_mapped f (x ∷ xs) (suc place) = slice_get_mapped f xs place
