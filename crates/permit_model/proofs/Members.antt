-- Members of lists that are mapped, filtered or joined.
use Rattle.std.proofs.Common.{◌≡◌, ◌<◌, ◌⊎◌, inl, inr, ℕ, zero, suc, Bool, true, cond, List, [], ◌∷◌, ◌++◌, map, length, refl, ap}
use Rattle.std.proofs.Common.{arith, get_or}
use Rattle.std.specs.Prelude.{filter, ◌||◌}
use Rattle.std.specs.List.{flat_map, list_any, AllByRecursion, Contains}

-- the item is one of the list's
abbrev pub IsMember : {A : Type 0} → A → List A → Type 0
IsMember y [] = ⊥
IsMember y (x ∷ xs) = (x ≡ y) ⊎ IsMember y xs

member_at : {A : Type 0} (y : A) (xs : List A) (k : ℕ) → k < length xs → get_or xs k y ≡ y → IsMember y xs
member_at y [] k inside e = absurd (omega (arith, inside))
member_at y (x ∷ xs) zero inside e = inl e
member_at y (x ∷ xs) (suc k) inside e = inr (member_at y xs k (omega (arith, inside)) e)

pub member_from : {A : Type 0} (y : A) (xs : List A) → Contains xs y → IsMember y xs
member_from y xs there = member_at y xs there.0 there.1 there.2

contains_first : {A : Type 0} (y x : A) (xs : List A) → (x ≡ y) ⊎ IsMember y xs → (IsMember y xs → Contains xs y) → Contains (x ∷ xs) y
contains_first y x xs (inl e) ih = (zero, omega arith, e)
contains_first y x xs (inr m) ih = let later = ih m in (suc later.0, omega (arith, later.1), later.2)

pub contains_from : {A : Type 0} (y : A) (xs : List A) → IsMember y xs → Contains xs y
contains_from y [] m = absurd m
contains_from y (x ∷ xs) m = contains_first y x xs m (contains_from y xs)

of_first : {A : Type 0} (P : A → Type 0) (y x : A) (xs : List A) → P x × AllByRecursion P xs → (x ≡ y) ⊎ IsMember y xs → (IsMember y xs → P y) → P y
of_first P y x xs all h ih = grind arith

-- what holds of all holds of a member
pub of_member : {A : Type 0} (P : A → Type 0) (y : A) (xs : List A) → AllByRecursion P xs → IsMember y xs → P y
of_member P y [] all m = absurd m
of_member P y (x ∷ xs) all m = of_first P y x xs all m (of_member P y xs all.1)

-- the members of the one are members of the other
abbrev pub Covers : {A : Type 0} → List A → List A → Type 0
Covers {A} xs ys = (z : A) → IsMember z xs → IsMember z ys

all_by : {A : Type 0} (P : A → Type 0) (x : A) (xs : List A) → ((y : A) → (x ≡ y) ⊎ IsMember y xs → P y) →
    (((y : A) → IsMember y xs → P y) → AllByRecursion P xs) → P x × AllByRecursion P xs
all_by P x xs each ih = (each x (inl refl), ih (λ y m. each y (inr m)))

-- what holds of each member holds of all
pub all_members : {A : Type 0} (P : A → Type 0) (xs : List A) → ((y : A) → IsMember y xs → P y) → AllByRecursion P xs
all_members P [] each = tt
all_members P (x ∷ xs) each = all_by P x xs each (all_members P xs)

-- ---- joined lists

pub in_left : {A : Type 0} (y : A) (xs ys : List A) → IsMember y xs → IsMember y (xs ++ ys)
in_left y [] ys m = absurd m
in_left y (x ∷ xs) ys (inl e) = inl e
in_left y (x ∷ xs) ys (inr m) = inr (in_left y xs ys m)

pub in_right : {A : Type 0} (y : A) (xs ys : List A) → IsMember y ys → IsMember y (xs ++ ys)
in_right y [] ys m = m
in_right y (x ∷ xs) ys m = inr (in_right y xs ys m)

split_first : {A : Type 0} (y x : A) (xs ys : List A) → (x ≡ y) ⊎ IsMember y (xs ++ ys) → (IsMember y (xs ++ ys) → IsMember y xs ⊎ IsMember y ys) →
    ((x ≡ y) ⊎ IsMember y xs) ⊎ IsMember y ys
split_first y x xs ys h ih = grind arith

pub in_either : {A : Type 0} (y : A) (xs ys : List A) → IsMember y (xs ++ ys) → IsMember y xs ⊎ IsMember y ys
in_either y [] ys m = inr m
in_either y (x ∷ xs) ys m = split_first y x xs ys m (in_either y xs ys)

-- the item is in the list that the function gives of a member
abbrev pub IsGiven : {A B : Type 0} → (A → List B) → B → List A → Type 0
IsGiven {A} f y xs = (x : A) × IsMember x xs × IsMember y (f x)

given_more : {A B : Type 0} (f : A → List B) (y : B) (x : A) (xs : List A) → IsMember y (f x) ⊎ IsMember y (flat_map f xs) →
    (IsMember y (flat_map f xs) → IsGiven f y xs) → IsGiven f y (x ∷ xs)
given_more f y x xs h ih = grind arith

pub given_by : {A B : Type 0} (f : A → List B) (y : B) (xs : List A) → IsMember y (flat_map f xs) → IsGiven f y xs
given_by f y [] m = absurd m
given_by f y (x ∷ xs) m = given_more f y x xs (in_either y (f x) (flat_map f xs) m) (given_by f y xs)

gives_first : {A B : Type 0} (f : A → List B) (y : B) (z x : A) (xs : List A) → (x ≡ z) ⊎ IsMember z xs → IsMember y (f z) →
    (IsMember z xs → IsMember y (flat_map f xs)) → IsMember y (f x ++ flat_map f xs)
gives_first f y z x xs h m ih = grind (arith, in_left, in_right)

pub gives : {A B : Type 0} (f : A → List B) (y : B) (z : A) (xs : List A) → IsMember z xs → IsMember y (f z) → IsMember y (flat_map f xs)
gives f y z [] n m = absurd n
gives f y z (x ∷ xs) n m = gives_first f y z x xs n m (λ k. gives f y z xs k m)

-- ---- mapped lists

-- the item is what the function makes of a member
abbrev pub IsMadeOf : {A B : Type 0} → (A → B) → B → List A → Type 0
IsMadeOf {A} f y xs = (x : A) × IsMember x xs × (f x ≡ y)

made_more : {A B : Type 0} (f : A → B) (y : B) (x : A) (xs : List A) → (f x ≡ y) ⊎ IsMember y (map f xs) → (IsMember y (map f xs) → IsMadeOf f y xs) →
    IsMadeOf f y (x ∷ xs)
made_more f y x xs h ih = grind arith

pub made_of : {A B : Type 0} (f : A → B) (y : B) (xs : List A) → IsMember y (map f xs) → IsMadeOf f y xs
made_of f y [] m = absurd m
made_of f y (x ∷ xs) m = made_more f y x xs m (made_of f y xs)

pub member_made : {A B : Type 0} (f : A → B) (z : A) (xs : List A) → IsMember z xs → IsMember (f z) (map f xs)
member_made f z [] m = absurd m
member_made f z (x ∷ xs) (inl e) = inl (ap f e)
member_made f z (x ∷ xs) (inr m) = inr (member_made f z xs m)

-- ---- filtered lists

passed_first : {A : Type 0} (p : A → Bool) (y x : A) (kept xs : List A) (b : Bool) → p x ≡ b → IsMember y (cond b (x ∷ kept) kept) →
    (IsMember y kept → IsMember y xs × (p y ≡ true)) → IsMember y (x ∷ xs) × (p y ≡ true)
passed_first p y x kept xs b e h ih = grind arith

-- a member of a filtered list is one that passes
pub passed : {A : Type 0} (p : A → Bool) (y : A) (xs : List A) → IsMember y (filter p xs) → IsMember y xs × (p y ≡ true)
passed p y [] m = absurd m
passed p y (x ∷ xs) m = passed_first p y x (filter p xs) xs (p x) refl m (passed p y xs)

kept_first : {A : Type 0} (p : A → Bool) (y x : A) (xs kept : List A) (b : Bool) → p x ≡ b → (x ≡ y) ⊎ IsMember y xs → p y ≡ true →
    (IsMember y xs → IsMember y kept) → IsMember y (cond b (x ∷ kept) kept)
kept_first p y x xs kept b e h2 h ih = grind arith

pub kept : {A : Type 0} (p : A → Bool) (y : A) (xs : List A) → IsMember y xs → p y ≡ true → IsMember y (filter p xs)
kept p y [] m h = absurd m
kept p y (x ∷ xs) m h = kept_first p y x xs (filter p xs) (p x) refl m h (λ n. kept p y xs n h)

-- ---- one that passes

-- a member passes the test
abbrev pub OnePasses : {A : Type 0} → (A → Bool) → List A → Type 0
OnePasses {A} p xs = (x : A) × IsMember x xs × (p x ≡ true)

passes_more : {A : Type 0} (p : A → Bool) (x : A) (xs : List A) (b : Bool) → p x ≡ b → (b || list_any p xs) ≡ true → (list_any p xs ≡ true → OnePasses p xs) →
    OnePasses p (x ∷ xs)
passes_more p x xs b e h ih = grind arith

pub one_passes : {A : Type 0} (p : A → Bool) (xs : List A) → list_any p xs ≡ true → OnePasses p xs
one_passes p [] h = cc
one_passes p (x ∷ xs) h = passes_more p x xs (p x) refl h (one_passes p xs)

any_first : {A : Type 0} (p : A → Bool) (y x : A) (xs : List A) → (x ≡ y) ⊎ IsMember y xs → p y ≡ true → (IsMember y xs → list_any p xs ≡ true) →
    (p x || list_any p xs) ≡ true
any_first p y x xs h2 h ih = grind arith

pub any_of_member : {A : Type 0} (p : A → Bool) (y : A) (xs : List A) → IsMember y xs → p y ≡ true → list_any p xs ≡ true
any_of_member p y [] m h = absurd m
any_of_member p y (x ∷ xs) m h = any_first p y x xs m h (λ n. any_of_member p y xs n h)
