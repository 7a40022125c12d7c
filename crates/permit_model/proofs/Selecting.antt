-- How many items pass a test, and what several tests select of a list, up to the order.
use Rattle.std.proofs.Common.{◌≡◌, ◌≤◌, ◌<◌, ℕ, ◌+◌, ◌*◌, Bool, true, false, ◌&&◌, cond, List, [], ◌∷◌, ◌++◌, map, length, refl, sym, ◌∙◌, ap, subst, arith}
use Rattle.std.proofs.Common.{append_assoc, length-append}
use Rattle.std.specs.Prelude.{filter, IsPermutation, ◌||◌}
use Rattle.std.specs.List.{flat_map, list_any, list_all, AllByRecursion}
use Rattle.std.proofs.lemmas.List.Sorted.{IsPermutation-refl, IsPermutation-sym, IsPermutation-trans, IsPermutation-cons, IsPermutation-append_left}
use Rattle.std.proofs.lemmas.List.Sorted.{IsPermutation-append_right, IsPermutation-append_comm}
use Rattle.std.proofs.lemmas.List.{length-map}
use Rattle.std.proofs.lemmas.Grind.{flat_map-append}
use Rattle.permit_model.specs.Search.{how_many}

-- ---- counts

-- 1 where it holds
abbrev pub bit : Bool → ℕ
bit true = 1
bit false = 0

counted_by : {A : Type 0} (b : Bool) (x : A) (kept : List A) → length (cond b (x ∷ kept) kept) ≡ bit b + length kept
counted_by b x kept = grind arith

pub how_many-cons : {A : Type 0} (p : A → Bool) (x : A) (xs : List A) → how_many p (x ∷ xs) ≡ bit (p x) + how_many p xs
how_many-cons p x xs = counted_by (p x) x (filter p xs)

pub how_many-map : {A B : Type 0} (f : A → B) (p : B → Bool) (xs : List A) → how_many p (map f xs) ≡ how_many (λ x. p (f x)) xs
how_many-map f p [] = refl
how_many-map f p (x ∷ xs) = how_many-cons p (f x) (map f xs) ∙ ap (λ n. bit (p (f x)) + n) (how_many-map f p xs) ∙ sym (how_many-cons (λ y. p (f y)) x xs)

pub how_many-append : {A : Type 0} (p : A → Bool) (xs ys : List A) → how_many p (xs ++ ys) ≡ how_many p xs + how_many p ys
how_many-append p [] ys = omega arith
how_many-append p (x ∷ xs) ys = omega (arith, how_many-cons p x (xs ++ ys), how_many-cons p x xs, how_many-append p xs ys)

pub how_many-none : {A : Type 0} (xs : List A) → how_many (λ x. false) xs ≡ 0
how_many-none [] = refl
how_many-none (x ∷ xs) = how_many-none xs

-- after a test that doesn't depend on the item
pub how_many-gate : {A : Type 0} (b : Bool) (p : A → Bool) (xs : List A) → how_many (λ x. b && p x) xs ≡ cond b (how_many p xs) 0
how_many-gate true p xs = refl
how_many-gate false p xs = how_many-none xs

most_by : {A : Type 0} (p : A → Bool) (x : A) (xs : List A) (b : Bool) → p x ≡ b → how_many p xs ≤ length xs → how_many p (x ∷ xs) ≤ length (x ∷ xs)
most_by p x xs b e ih = grind arith

pub how_many-most : {A : Type 0} (p : A → Bool) (xs : List A) → how_many p xs ≤ length xs
how_many-most p [] = omega arith
how_many-most p (x ∷ xs) = most_by p x xs (p x) refl (how_many-most p xs)

filter_by : {A : Type 0} (q p : A → Bool) (x : A) (kept all : List A) (b : Bool) → q x ≡ b → how_many p kept ≡ how_many (λ y. q y && p y) all →
    how_many p (cond b (x ∷ kept) kept) ≡ how_many (λ y. q y && p y) (x ∷ all)
filter_by q p x kept all b e ih = grind arith

-- how many of those that pass one test pass another
pub how_many-filter : {A : Type 0} (q p : A → Bool) (xs : List A) → how_many p (filter q xs) ≡ how_many (λ x. q x && p x) xs
how_many-filter q p [] = refl
how_many-filter q p (x ∷ xs) = filter_by q p x (filter q xs) xs (q x) refl (how_many-filter q p xs)

-- ---- one item at least

some_by : {A : Type 0} (p : A → Bool) (x : A) (xs : List A) (b : Bool) → p x ≡ b → (b || list_any p xs) ≡ true → (list_any p xs ≡ true → 0 < how_many p xs) →
    0 < how_many p (x ∷ xs)
some_by p x xs b e h ih = grind arith

-- where one passes, the count isn't 0
pub some_counted : {A : Type 0} (p : A → Bool) (xs : List A) → list_any p xs ≡ true → 0 < how_many p xs
some_counted p [] h = cc
some_counted p (x ∷ xs) h = some_by p x xs (p x) refl h (some_counted p xs)

any_by : {A : Type 0} (p : A → Bool) (x : A) (xs : List A) (b : Bool) → p x ≡ b → 0 < how_many p (x ∷ xs) → (0 < how_many p xs → list_any p xs ≡ true) →
    (b || list_any p xs) ≡ true
any_by p x xs b e h ih = grind arith

-- where the count isn't 0, one passes
pub any_counted : {A : Type 0} (p : A → Bool) (xs : List A) → 0 < how_many p xs → list_any p xs ≡ true
any_counted p [] h = absurd (omega (arith, h))
any_counted p (x ∷ xs) h = any_by p x xs (p x) refl h (any_counted p xs)

any_more_by : (a b more less : Bool) → (a ≡ true → b ≡ true) → (less ≡ true → more ≡ true) → (a || less) ≡ true → (b || more) ≡ true
any_more_by a b more less f ih h = grind arith

-- a weaker test
pub any_weaker : {A : Type 0} (p q : A → Bool) → ((x : A) → p x ≡ true → q x ≡ true) → (xs : List A) → list_any p xs ≡ true → list_any q xs ≡ true
any_weaker p q f [] h = h
any_weaker p q f (x ∷ xs) h = any_more_by (p x) (q x) (list_any q xs) (list_any p xs) (f x) (any_weaker p q f xs) h

-- ---- groups of items, of which one group alone passes

flat_filter_by : {A B : Type 0} (g : A → List B) (x : A) (rest : List A) (other : List B) (b : Bool) → flat_map g rest ≡ other →
    flat_map g (cond b (x ∷ rest) rest) ≡ cond b (g x) [] ++ other
flat_filter_by g x rest other b ih = grind arith

-- the groups of what passes a test are empty groups of what doesn't
pub flat_filter : {A B : Type 0} (g : A → List B) (m : A → Bool) (xs : List A) → flat_map g (filter m xs) ≡ flat_map (λ x. cond (m x) (g x) []) xs
flat_filter g m [] = refl
flat_filter g m (x ∷ xs) = flat_filter_by g x (filter m xs) (flat_map (λ y. cond (m y) (g y) []) xs) (m x) (flat_filter g m xs)

-- a group that isn't marked has none that passes
abbrev pub CountsBy : {C R : Type 0} → (C → List R) → (R → Bool) → (C → Bool) → ℕ → Type 0
CountsBy {C} g p mark n = (c : C) → how_many p (g c) ≡ cond (mark c) n 0

none_by : {C R : Type 0} (g : C → List R) (p : R → Bool) (mark : C → Bool) (n : ℕ) → CountsBy g p mark n → (c : C) (cs : List C) (b : Bool) → mark c ≡ b →
    how_many mark (c ∷ cs) ≡ 0 →
    (how_many mark cs ≡ 0 → how_many p (flat_map g cs) ≡ 0) → how_many p (flat_map g (c ∷ cs)) ≡ 0
none_by g p mark n counts c cs b e h ih = grind (arith, how_many-cons, how_many-append)

counted_none : {C R : Type 0} (g : C → List R) (p : R → Bool) (mark : C → Bool) (n : ℕ) → CountsBy g p mark n → (cs : List C) → how_many mark cs ≡ 0 →
    how_many p (flat_map g cs) ≡ 0
counted_none g p mark n counts [] h = refl
counted_none g p mark n counts (c ∷ cs) h = none_by g p mark n counts c cs (mark c) refl h (counted_none g p mark n counts cs)

once_by : {C R : Type 0} (g : C → List R) (p : R → Bool) (mark : C → Bool) (n : ℕ) → CountsBy g p mark n → (c : C) (cs : List C) (b : Bool) → mark c ≡ b →
    how_many mark (c ∷ cs) ≡ 1 →
    (how_many mark cs ≡ 1 → how_many p (flat_map g cs) ≡ n) → how_many p (flat_map g (c ∷ cs)) ≡ n
once_by g p mark n counts c cs true e h ih =
    let here : how_many p (g c) ≡ n = counts c ∙ ap (λ b. cond b n 0) e in
    let rest : how_many p (flat_map g cs) ≡ 0 = counted_none g p mark n counts cs (omega (arith, how_many-cons mark c cs, ap bit e, h)) in
    omega (arith, how_many-append p (g c) (flat_map g cs), here, rest)
once_by g p mark n counts c cs false e h ih =
    let here : how_many p (g c) ≡ 0 = counts c ∙ ap (λ b. cond b n 0) e in
    omega (arith, how_many-append p (g c) (flat_map g cs), here, ih (omega (arith, how_many-cons mark c cs, ap bit e, h)))

-- where one group is marked, what passes in all is what passes in it
pub counted_once : {C R : Type 0} (g : C → List R) (p : R → Bool) (mark : C → Bool) (n : ℕ) → CountsBy g p mark n → (cs : List C) → how_many mark cs ≡ 1 →
    how_many p (flat_map g cs) ≡ n
counted_once g p mark n counts [] h = absurd (omega (arith, h))
counted_once g p mark n counts (c ∷ cs) h = once_by g p mark n counts c cs (mark c) refl h (counted_once g p mark n counts cs)

-- in a group that is marked so many pass, and in another none
abbrev pub CountsEach : {C R : Type 0} → (C → List R) → (R → Bool) → (C → Bool) → (C → ℕ) → Type 0
CountsEach {C} g p mark t = (c : C) → how_many p (g c) ≡ cond (mark c) (t c) 0

home_by : {C R : Type 0} (g : C → List R) (p : R → Bool) (mark m : C → Bool) (t : C → ℕ) (home : C) → ((c : C) → mark c ≡ true → c ≡ home) →
    CountsEach g p mark t → (c : C) (b : Bool) → mark c ≡ b → how_many p (cond (m c) (g c) []) ≡ cond b (cond (m home) (t home) 0) 0
home_by g p mark m t home is counts c b e = grind arith

-- Where the one marked group is that of `home`, what passes in the groups that are taken is what passes in that one, if it is taken.
pub counted_home : {C R : Type 0} (g : C → List R) (p : R → Bool) (mark m : C → Bool) (t : C → ℕ) (home : C) → ((c : C) → mark c ≡ true → c ≡ home) →
    CountsEach g p mark t → (cs : List C) → how_many mark cs ≡ 1 → how_many p (flat_map g (filter m cs)) ≡ cond (m home) (t home) 0
counted_home g p mark m t home is counts cs one =
    ap (how_many p) (flat_filter g m cs)
    ∙ counted_once (λ c. cond (m c) (g c) []) p mark (cond (m home) (t home) 0)
    (λ c. home_by g p mark m t home is counts c (mark c) refl) cs one

all_home_by : {C : Type 0} (p mark : C → Bool) (home : C) → ((c : C) → mark c ≡ true → c ≡ home) → (c : C) (cs : List C) (a b : Bool) → p c ≡ a → mark c ≡ b →
    (a && list_all p cs) ≡ true → how_many mark (c ∷ cs) ≡ 1 → (list_all p cs ≡ true → how_many mark cs ≡ 1 → p home ≡ true) → p home ≡ true
all_home_by p mark home is c cs a b e f all one ih = grind arith

-- what all pass, the marked one passes
pub all_home : {C : Type 0} (p mark : C → Bool) (home : C) → ((c : C) → mark c ≡ true → c ≡ home) → (cs : List C) → list_all p cs ≡ true →
    how_many mark cs ≡ 1 → p home ≡ true
all_home p mark home is [] all one = absurd (omega (arith, one))
all_home p mark home is (c ∷ cs) all one = all_home_by p mark home is c cs (p c) (mark c) refl refl all one (all_home p mark home is cs)

-- ---- what the tests select, up to the order

none_each : {A B : Type 0} (xs : List A) → flat_map {A = B} (λ x. []) xs ≡ []
none_each [] = refl
none_each (x ∷ xs) = none_each xs

crossed : {A : Type 0} (f g m : List A) → IsPermutation (f ++ (g ++ m)) (g ++ (f ++ m))
crossed f g m =
    subst (λ ys. IsPermutation ys (g ++ (f ++ m))) (append_assoc f g m)
    (subst (λ ys. IsPermutation ((f ++ g) ++ m) ys) (append_assoc g f m) (IsPermutation-append_left m (f ++ g) (g ++ f) (IsPermutation-append_comm f g)))

peel_by : {A : Type 0} (x : A) (kept left right gx : List A) (b : Bool) → IsPermutation (kept ++ left) right →
    IsPermutation (cond b (x ∷ kept) kept ++ (gx ++ left)) (cond b (x ∷ gx) gx ++ right)
peel_by x kept left right gx true ih =
    IsPermutation-cons x (kept ++ (gx ++ left)) (gx ++ right) (IsPermutation-trans (kept ++ (gx ++ left)) (gx ++ (kept ++ left)) (gx ++ right)
    (crossed kept gx left) (IsPermutation-append_right gx (kept ++ left) right ih))
peel_by x kept left right gx false ih =
    IsPermutation-trans (kept ++ (gx ++ left)) (gx ++ (kept ++ left)) (gx ++ right) (crossed kept gx left)
    (IsPermutation-append_right gx (kept ++ left) right ih)

-- the items that pass, before what each item has more
peel : {A : Type 0} (q : A → Bool) (g : A → List A) (xs : List A) → IsPermutation (filter q xs ++ flat_map g xs) (flat_map (λ x. cond (q x) (x ∷ g x) (g x)) xs)
peel q g [] = IsPermutation-refl []
peel q g (x ∷ xs) = peel_by x (filter q xs) (flat_map g xs) (flat_map (λ y. cond (q y) (y ∷ g y) (g y)) xs) (g x) (q x) (peel q g xs)

-- the item once for each test that it passes
abbrev pub copies : {R A : Type 0} → (R → A → Bool) → List R → A → List A
copies p rs x = map (λ r. x) (filter (λ r. p r x) rs)

copy_by : {R A : Type 0} (r : R) (x : A) (kept : List R) (b : Bool) → cond b (x ∷ map (λ _. x) kept) (map (λ _. x) kept) ≡ map (λ _. x) (cond b (r ∷ kept) kept)
copy_by r x kept b = grind arith

pub flat_agree : {A B : Type 0} (f g : A → List B) (xs : List A) → AllByRecursion (λ x. f x ≡ g x) xs → flat_map f xs ≡ flat_map g xs
flat_agree f g [] same = refl
flat_agree f g (x ∷ xs) same = ap (λ ys. ys ++ flat_map f xs) same.0 ∙ ap (λ ys. g x ++ ys) (flat_agree f g xs same.1)

pub everywhere : {A : Type 0} (P : A → Type 0) → ((x : A) → P x) → (xs : List A) → AllByRecursion P xs
everywhere P h [] = tt
everywhere P h (x ∷ xs) = (h x, everywhere P h xs)

-- what the tests select one after the other is what each item passes
pub selected : {R A : Type 0} (p : R → A → Bool) (rs : List R) (xs : List A) → IsPermutation (flat_map (λ r. filter (p r) xs) rs) (flat_map (copies p rs) xs)
selected p [] xs = subst (λ ys. IsPermutation [] ys) (sym (none_each xs)) (IsPermutation-refl [])
selected p (r ∷ rs) xs =
    let more = IsPermutation-append_right (filter (p r) xs) (flat_map (λ s. filter (p s) xs) rs) (flat_map (copies p rs) xs) (selected p rs xs) in
    let peeled = peel (p r) (copies p rs) xs in
    let same : flat_map (λ x. cond (p r x) (x ∷ copies p rs x) (copies p rs x)) xs ≡ flat_map (copies p (r ∷ rs)) xs =
    flat_agree (λ x. cond (p r x) (x ∷ copies p rs x) (copies p rs x)) (copies p (r ∷ rs)) xs
    (everywhere (λ x. cond (p r x) (x ∷ copies p rs x) (copies p rs x) ≡ copies p (r ∷ rs) x) (λ x. copy_by r x (filter (λ s. p s x) rs) (p r x)) xs) in
    subst (λ ys. IsPermutation (flat_map (λ s. filter (p s) xs) (r ∷ rs)) ys) same
    (IsPermutation-trans (filter (p r) xs ++ flat_map (λ s. filter (p s) xs) rs) (filter (p r) xs ++ flat_map (copies p rs) xs)
    (flat_map (λ x. cond (p r x) (x ∷ copies p rs x) (copies p rs x)) xs) more peeled)

pub same_copies : {R S A : Type 0} (x : A) (rs : List R) (ss : List S) → length rs ≡ length ss → map (λ _. x) rs ≡ map (λ _. x) ss
same_copies x [] [] e = refl
same_copies x [] (s ∷ ss) e = absurd (omega (arith, e))
same_copies x (r ∷ rs) [] e = absurd (omega (arith, e))
same_copies x (r ∷ rs) (s ∷ ss) e = ap (λ ys. x ∷ ys) (same_copies x rs ss (omega (arith, e)))

each_same : {R S A : Type 0} (p : R → A → Bool) (q : S → A → Bool) (rs : List R) (ss : List S) (xs : List A) →
    AllByRecursion (λ x. how_many (λ r. p r x) rs ≡ how_many (λ s. q s x) ss) xs → AllByRecursion (λ x. copies p rs x ≡ copies q ss x) xs
each_same p q rs ss [] same = tt
each_same p q rs ss (x ∷ xs) same = (same_copies x (filter (λ r. p r x) rs) (filter (λ s. q s x) ss) same.0, each_same p q rs ss xs same.1)

-- Where each item passes as many tests of the one list as of the other, both select the same items, as often.
pub same_selected : {R S A : Type 0} (p : R → A → Bool) (q : S → A → Bool) (rs : List R) (ss : List S) (xs : List A) →
    AllByRecursion (λ x. how_many (λ r. p r x) rs ≡ how_many (λ s. q s x) ss) xs →
    IsPermutation (flat_map (λ r. filter (p r) xs) rs) (flat_map (λ s. filter (q s) xs) ss)
same_selected p q rs ss xs same =
    IsPermutation-trans (flat_map (λ r. filter (p r) xs) rs) (flat_map (copies q ss) xs) (flat_map (λ s. filter (q s) xs) ss)
    (subst (λ ys. IsPermutation (flat_map (λ r. filter (p r) xs) rs) ys) (flat_agree (copies p rs) (copies q ss) xs (each_same p q rs ss xs same))
    (selected p rs xs))
    (IsPermutation-sym (flat_map (λ s. filter (q s) xs) ss) (flat_map (copies q ss) xs) (selected q ss xs))

-- ---- lists that are mapped, filtered or joined twice

filter_twice_by : {A : Type 0} (q : A → Bool) (x : A) (kept all : List A) (b : Bool) → filter q kept ≡ all →
    filter q (cond b (x ∷ kept) kept) ≡ cond (b && q x) (x ∷ all) all
filter_twice_by q x kept all b e = grind arith

pub filter_twice : {A : Type 0} (p q : A → Bool) (xs : List A) → filter q (filter p xs) ≡ filter (λ x. p x && q x) xs
filter_twice p q [] = refl
filter_twice p q (x ∷ xs) = filter_twice_by q x (filter p xs) (filter (λ y. p y && q y) xs) (p x) (filter_twice p q xs)

filter_mapped_by : {A B : Type 0} (f : A → B) (x : A) (kept : List A) (other : List B) (b : Bool) → other ≡ map f kept →
    cond b (f x ∷ other) other ≡ map f (cond b (x ∷ kept) kept)
filter_mapped_by f x kept other b e = grind arith

pub filter_mapped : {A B : Type 0} (f : A → B) (p : B → Bool) (xs : List A) → filter p (map f xs) ≡ map f (filter (λ x. p (f x)) xs)
filter_mapped f p [] = refl
filter_mapped f p (x ∷ xs) = filter_mapped_by f x (filter (λ y. p (f y)) xs) (filter p (map f xs)) (p (f x)) (filter_mapped f p xs)

-- what is mapped there and back
pub mapped_back : {A B : Type 0} (f : A → B) (g : B → A) → ((x : A) → g (f x) ≡ x) → (xs : List A) → map g (map f xs) ≡ xs
mapped_back f g back [] = refl
mapped_back f g back (x ∷ xs) = ap (λ y. y ∷ map g (map f xs)) (back x) ∙ ap (λ ys. x ∷ ys) (mapped_back f g back xs)

pub mapped_both : {A B : Type 0} (f : A → B) (xs ys : List A) → map f (xs ++ ys) ≡ map f xs ++ map f ys
mapped_both f [] ys = refl
mapped_both f (x ∷ xs) ys = ap (λ zs. f x ∷ zs) (mapped_both f xs ys)

pub flat_mapped : {A B C : Type 0} (f : B → C) (g : A → List B) (xs : List A) → flat_map (λ x. map f (g x)) xs ≡ map f (flat_map g xs)
flat_mapped f g [] = refl
flat_mapped f g (x ∷ xs) = ap (λ ys. map f (g x) ++ ys) (flat_mapped f g xs) ∙ sym (mapped_both f (g x) (flat_map g xs))

pub flat_flat : {A B C : Type 0} (f : B → List C) (g : A → List B) (xs : List A) → flat_map f (flat_map g xs) ≡ flat_map (λ x. flat_map f (g x)) xs
flat_flat f g [] = refl
flat_flat f g (x ∷ xs) = flat_map-append f (g x) (flat_map g xs) ∙ ap (λ ys. flat_map f (g x) ++ ys) (flat_flat f g xs)

-- where each item passes at most 21 tests
pub few_copies : {R A : Type 0} (p : R → A → Bool) (rs : List R) → ((x : A) → how_many (λ r. p r x) rs ≤ 21) → (xs : List A) →
    length (flat_map (copies p rs) xs) ≤ 21 * length xs
few_copies p rs few [] = omega arith
few_copies p rs few (x ∷ xs) =
    let all = length-append (copies p rs x) (flat_map (copies p rs) xs) in
    let here = length-map (filter (λ r. p r x) rs) (λ r. x) in
    omega (arith, all, here, few x, few_copies p rs few xs)
