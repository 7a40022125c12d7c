-- The values of the fields of a name, field by field.
use Rattle.std.proofs.Common.{◌≡◌, ℕ, suc, ◌+◌, ◌<◌, ◌≤◌, List, [], ◌∷◌, length, get_or, drop, map, Bool, ◌||◌, true, false, Option, Some, None, refl}
use Rattle.std.proofs.Common.{sym, ap, ◌∙◌, add-one, arith}
use Rattle.std.proofs.Math.Seq.{drop-cons}
use Rattle.std.proofs.lemmas.List.{drop_all}
use Rattle.std.specs.Str.{str_eq_ignore_ascii_case}
use Rattle.permit_http.specs.Head.{Pair, values_named, only, length_from, is_close, closes}

value_first : (name : List ℕ) (p : Pair) (ps : List Pair) (b : Bool) → str_eq_ignore_ascii_case p.0 name ≡ b → b ≡ true
    → values_named name (p ∷ ps) ≡ p.1 ∷ values_named name ps
value_first name p ps b e t = rw (e, t) refl

value_not : (name : List ℕ) (p : Pair) (ps : List Pair) (b : Bool) → str_eq_ignore_ascii_case p.0 name ≡ b → b ≡ false
    → values_named name (p ∷ ps) ≡ values_named name ps
value_not name p ps b e t = rw (e, t) refl

module _ {X : Type 0} (f : X → Pair) (name : List ℕ) (xs : List X) (i : ℕ) (d : X) where
  pub here : i < length xs → str_eq_ignore_ascii_case (f (get_or xs i d)).0 name ≡ true
      → values_named name (map f (drop i xs)) ≡ (f (get_or xs i d)).1 ∷ values_named name (map f (drop (i + 1) xs))
  here h e =
      ap (λ ys. values_named name (map f ys)) (drop-cons xs i d h)
      ∙ value_first name (f (get_or xs i d)) (map f (drop (suc i) xs)) true e refl
      ∙ ap (λ n. (f (get_or xs i d)).1 ∷ values_named name (map f (drop n xs))) (sym (add-one i))

  pub next : i < length xs → str_eq_ignore_ascii_case (f (get_or xs i d)).0 name ≡ false
      → values_named name (map f (drop i xs)) ≡ values_named name (map f (drop (i + 1) xs))
  next h e =
      ap (λ ys. values_named name (map f ys)) (drop-cons xs i d h)
      ∙ value_not name (f (get_or xs i d)) (map f (drop (suc i) xs)) false e refl
      ∙ ap (λ n. values_named name (map f (drop n xs))) (sym (add-one i))

pub none_left : {X : Type 0} (f : X → Pair) (name : List ℕ) (xs : List X) (i : ℕ) → length xs ≤ i → values_named name (map f (drop i xs)) ≡ []
none_left f name xs i h = rw (drop_all i xs h) refl

-- the value found so far, as a list
abbrev pub listed : Option (List ℕ) → List (List ℕ)
listed None = []
listed (Some value) = value ∷ []

-- of at most one value, the one is what is there
pub length_from-few : (values : List (List ℕ)) → length values ≤ 1 → (length_from values ≡ length_from (listed (only values)))
length_from-few [] h = refl
length_from-few (x ∷ []) h = refl
length_from-few (x ∷ y ∷ more) h = absurd (omega (arith, h))

-- a field that does not ask to close is passed
module _ {X : Type 0} (f : X → Pair) (xs : List X) (i : ℕ) (d : X) where
  pub close_here : i < length xs → is_close (f (get_or xs i d)) ≡ true → closes (map f (drop i xs)) ≡ true
  close_here h e = ap (λ ys. closes (map f ys)) (drop-cons xs i d h) ∙ first_true (is_close (f (get_or xs i d))) (closes (map f (drop (suc i) xs))) e
    where
      first_true : (a b : Bool) → a ≡ true → (a || b) ≡ true
      first_true a b e = rw e refl

  pub close_next : i < length xs → is_close (f (get_or xs i d)) ≡ false → closes (map f (drop i xs)) ≡ closes (map f (drop (i + 1) xs))
  close_next h e =
      ap (λ ys. closes (map f ys)) (drop-cons xs i d h)
      ∙ first_false (is_close (f (get_or xs i d))) (closes (map f (drop (suc i) xs))) e
      ∙ ap (λ n. closes (map f (drop n xs))) (sym (add-one i))
    where
      first_false : (a b : Bool) → a ≡ false → (a || b) ≡ b
      first_false a b e = rw e refl

pub no_close : {X : Type 0} (f : X → Pair) (xs : List X) (i : ℕ) → length xs ≤ i → closes (map f (drop i xs)) ≡ false
no_close f xs i h = rw (drop_all i xs h) refl
