-- A pass over a list that keeps what passes a test.
use Rattle.std.proofs.Common.{◌≡◌, refl, ap, sym, ◌∙◌, Bool, true, false, ℕ, ◌+◌, ◌<◌, ◌≤◌, List, [], ◌∷◌, ◌++◌, append_assoc, append-nil, map, filter, length}
use Rattle.std.proofs.Common.{drop, get_or}
use Rattle.std.proofs.lemmas.List.{at_drop_more, at_drop_all}

first_kept : {A : Type 0} (p : A → Bool) (x : A) (xs : List A) → p x ≡ true → filter p (x ∷ xs) ≡ x ∷ filter p xs
first_kept p x xs e = rw e refl

first_left : {A : Type 0} (p : A → Bool) (x : A) (xs : List A) → p x ≡ false → filter p (x ∷ xs) ≡ filter p xs
first_left p x xs e = rw e refl

-- what the items that are left give
abbrev pub gives : {A B : Type 0} → (A → B) → (A → Bool) → List A → List B
gives f p xs = map f (filter p xs)

pub item_kept : {A B : Type 0} (f : A → B) (p : A → Bool) (xs : List A) (i : ℕ) (d x : A) (made more whole : List B) → i < length xs → x ≡ get_or xs i d
    → p x ≡ true → more ≡ made ++ f x ∷ [] → made ++ gives f p (drop i xs) ≡ whole → more ++ gives f p (drop (i + 1) xs) ≡ whole
item_kept f p xs i d x made more whole h e t m k =
    let rest = gives f p (drop (i + 1) xs) in
    let here : gives f p (drop i xs) ≡ f x ∷ rest = at_drop_more (gives f p) xs i d h ∙ ap (λ y. gives f p (y ∷ drop (i + 1) xs)) (sym e)
    ∙ ap (map f) (first_kept p x (drop (i + 1) xs) t) in
    ap (λ ys. ys ++ rest) m ∙ append_assoc made (f x ∷ []) rest ∙ ap (λ ys. made ++ ys) (sym here) ∙ k

pub item_left : {A B : Type 0} (f : A → B) (p : A → Bool) (xs : List A) (i : ℕ) (d x : A) (made whole : List B) → i < length xs → x ≡ get_or xs i d
    → p x ≡ false → made ++ gives f p (drop i xs) ≡ whole → made ++ gives f p (drop (i + 1) xs) ≡ whole
item_left f p xs i d x made whole h e t k =
    let here : gives f p (drop i xs) ≡ gives f p (drop (i + 1) xs) = at_drop_more (gives f p) xs i d h ∙ ap (λ y. gives f p (y ∷ drop (i + 1) xs)) (sym e)
    ∙ ap (map f) (first_left p x (drop (i + 1) xs) t) in
    ap (λ ys. made ++ ys) (sym here) ∙ k

pub items_end : {A B : Type 0} (f : A → B) (p : A → Bool) (xs : List A) (i : ℕ) (made whole : List B) → length xs ≤ i
    → made ++ gives f p (drop i xs) ≡ whole → made ≡ whole
items_end f p xs i made whole h k = sym (append-nil made) ∙ ap (λ ys. made ++ ys) (sym (at_drop_all (gives f p) xs i h)) ∙ k
