-- Numbering in order of acceptance.
use Rattle.std.specs.Prelude.{◌≡◌, ℕ, ◌+◌, Bool, true, ◌&&◌, ◌==◌, List, [], ◌∷◌}

-- the records have the numbers from the first one on, in the order of the list
abbrev pub IsNumberedFrom : {A : Type 0} → (A → ℕ) → ℕ → List A → Type 0
IsNumberedFrom number first [] = Unit {0}
IsNumberedFrom number first (x ∷ xs) = (number x ≡ first) × IsNumberedFrom number (first + 1) xs

-- the records are numbered from 1
abbrev pub IsNumbered : {A : Type 0} → (A → ℕ) → List A → Type 0
IsNumbered number records = IsNumberedFrom number 1 records

-- whether the records have the numbers from the first one on
abbrev pub is_numbered_from : {A : Type 0} → (A → ℕ) → ℕ → List A → Bool
is_numbered_from number first [] = true
is_numbered_from number first (x ∷ xs) = (number x == first) && is_numbered_from number (first + 1) xs

-- whether the records are numbered from 1
abbrev pub is_numbered : {A : Type 0} → (A → ℕ) → List A → Bool
is_numbered number records = is_numbered_from number 1 records
