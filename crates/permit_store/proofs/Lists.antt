-- A list that is turned once round, each item changed when it is the first.
use Rattle.std.proofs.Common.{◌≡◌, ℕ, zero, suc, ◌<◌, List, [], ◌∷◌, ◌++◌, length, map, take, drop, refl, ◌∙◌, ap, arith}
use Rattle.std.proofs.lemmas.List.{append_assoc}

-- the list with its first item changed
abbrev first_changed : {A : Type 0} → (A → A) → List A → List A
first_changed f xs = map f (take 1 xs) ++ drop 1 xs

-- the list with its first item after the others
abbrev turned : {A : Type 0} → List A → List A
turned xs = drop 1 xs ++ take 1 xs

turned_more : {A : Type 0} (f : A → A) (xs zs : List A) (i : ℕ) → i < length xs →
    turned (first_changed f (drop i xs ++ zs)) ≡ drop (suc i) xs ++ (zs ++ map f (take 1 (drop i xs)))
turned_more f [] zs i h = absurd (omega arith)
turned_more f (x ∷ xs) zs zero h = append_assoc xs zs (f x ∷ [])
turned_more f (x ∷ xs) zs (suc i) h = turned_more f xs zs i (omega arith)

changed_more : {A : Type 0} (f : A → A) (xs : List A) (i : ℕ) → i < length xs → map f (take i xs) ++ map f (take 1 (drop i xs)) ≡ map f (take (suc i) xs)
changed_more f [] i h = absurd (omega arith)
changed_more f (x ∷ xs) zero h = refl
changed_more f (x ∷ xs) (suc i) h = ap (λ zs. f x ∷ zs) (changed_more f xs i (omega arith))

-- one item further
pub turn_step : {A : Type 0} (f : A → A) (xs : List A) (i : ℕ) → i < length xs →
    turned (first_changed f (drop i xs ++ map f (take i xs))) ≡ drop (suc i) xs ++ map f (take (suc i) xs)
turn_step f xs i h = turned_more f xs (map f (take i xs)) i h ∙ ap (λ zs. drop (suc i) xs ++ zs) (changed_more f xs i h)
