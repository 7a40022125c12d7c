-- Of the orders of a file's papers, one rises.
use Rattle.std.proofs.Common.{◌≡◌, inl, inr, ◌<◌, Bool, false, List, [], ◌∷◌, filter, refl, sym, ap, ap₂, subst, ◌∙◌, arith, IsPermutation}
use Rattle.std.specs.Prelude.{◌⊎◌, nat_lt}
use Rattle.std.specs.List.{AllByRecursion}
use Rattle.std.proofs.lemmas.Bool.{lt-ltb, le-ltb}
use Rattle.std.proofs.lemmas.List.Sorted.{length_permutation, IsPermutation-sym}
use Rattle.sqlite_trees.specs.Tree.{IsAscending}
use Rattle.sqlite_trees.proofs.ListLemmas.{all-permutation}
use Rattle.sqlite_keyed.proofs.ListLemmas.{IsPermutation-filter}
use Rattle.permit_model.specs.Tables.{Paper}

abbrev pub Rises : List Paper → Type 0
Rises = IsAscending (λ a b. a.number < b.number)

-- whether it comes after
abbrev is_behind : Paper → Paper → Bool
is_behind p q = nat_lt p.number q.number

all_behind : (p : Paper) (ps : List Paper) → AllByRecursion (λ q. p.number < q.number) ps → filter (is_behind p) ps ≡ ps
all_behind p [] all = refl
all_behind p (q ∷ ps) all = let behind = lt-ltb p.number q.number all.0 in rw behind (ap (λ l. q ∷ l) (all_behind p ps all.1))

not_itself : (p : Paper) (ps : List Paper) → filter (is_behind p) (p ∷ ps) ≡ filter (is_behind p) ps
not_itself p ps = let here : nat_lt p.number p.number ≡ false = le-ltb p.number p.number (omega arith) in rw here refl

first_or_behind : (p : Paper) (ps : List Paper) → AllByRecursion (λ q. p.number < q.number) ps → AllByRecursion (λ q. (q ≡ p) ⊎ (p.number < q.number)) (p ∷ ps)
first_or_behind p ps all = (inl refl, go ps all)
  where
    go : (qs : List Paper) → AllByRecursion (λ q. p.number < q.number) qs → AllByRecursion (λ q. (q ≡ p) ⊎ (p.number < q.number)) qs
    go [] all = tt
    go (q ∷ qs) all = (inr all.0, go qs all.1)

one_first : (p q : Paper) → (q ≡ p) ⊎ (p.number < q.number) → (p ≡ q) ⊎ (q.number < p.number) → q ≡ p
one_first p q (inl same) other = same
one_first p q (inr low) (inl same) = sym same
one_first p q (inr low) (inr high) = absurd (omega (arith, low, high))

pub same_rising : (ps qs : List Paper) → Rises ps → Rises qs → IsPermutation ps qs → ps ≡ qs
same_rising [] [] up above same = refl
same_rising [] (q ∷ qs) up above same = absurd (omega (arith, length_permutation _ _ same))
same_rising (p ∷ ps) [] up above same = absurd (omega (arith, length_permutation _ _ same))
same_rising (p ∷ ps) (q ∷ qs) up above same =
    let back = IsPermutation-sym _ _ same in
    let one = all-permutation (λ z. (z ≡ p) ⊎ (p.number < z.number)) (p ∷ ps) (q ∷ qs) same (first_or_behind p ps up.0) in
    let two = all-permutation (λ z. (z ≡ q) ⊎ (q.number < z.number)) (q ∷ qs) (p ∷ ps) back (first_or_behind q qs above.0) in
    let first : q ≡ p = one_first p q one.0 two.0 in
    let left : filter (is_behind p) (p ∷ ps) ≡ ps = not_itself p ps ∙ all_behind p ps up.0 in
    let right : filter (is_behind p) (q ∷ qs) ≡ qs = ap (λ z. filter (is_behind z) (q ∷ qs)) (sym first) ∙ not_itself q qs ∙ all_behind q qs above.0 in
    let less = IsPermutation-filter (is_behind p) _ _ same in
    let rest = same_rising ps qs up.1 above.1 (subst (λ l. IsPermutation l qs) left (subst (IsPermutation (filter (is_behind p) (p ∷ ps))) right less)) in
    ap₂ ◌∷◌ (sym first) rest
