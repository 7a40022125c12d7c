-- Rows that are numbered without a gap are known by what is found of each number.
use Rattle.std.proofs.Common.{◌≡◌, ◌<◌, ◌≤◌, ℕ, ◌+◌, ◌==◌, cond, List, [], ◌∷◌, length, find, refl, sym, ◌∙◌, ap, arith}
use Rattle.std.specs.Prelude.{Some, unwrap_or}
use Rattle.std.proofs.lemmas.Bool.{eq-eqb, ne_eqb}
use Rattle.permit_model.specs.Numbering.{IsNumberedFrom}

at_head : {A : Type 0} (number : A → ℕ) (x : A) (xs : List A) (n : ℕ) → number x ≡ n → find (λ a. number a == n) (x ∷ xs) ≡ Some x
at_head number x xs n e = ap (λ b. cond b (Some x) (find (λ a. number a == n) xs)) (eq-eqb (number x) n e)

behind : {A : Type 0} (number : A → ℕ) (x : A) (xs : List A) (n : ℕ) → number x < n → find (λ a. number a == n) (x ∷ xs) ≡ find (λ a. number a == n) xs
behind number x xs n less = ap (λ b. cond b (Some x) (find (λ a. number a == n) xs)) (ne_eqb (number x) n (λ e. absurd (omega (arith, e, less))))

pub same_rows : {A : Type 0} (number : A → ℕ) (first : ℕ) (xs ys : List A) → IsNumberedFrom number first xs → IsNumberedFrom number first ys → length xs ≡ length ys
    → ((n : ℕ) → first ≤ n → n < first + length xs → find (λ a. number a == n) xs ≡ find (λ a. number a == n) ys) → xs ≡ ys
same_rows number first [] [] nx ny count same = refl
same_rows number first [] (y ∷ ys) nx ny count same = absurd (omega (arith, count))
same_rows number first (x ∷ xs) [] nx ny count same = absurd (omega (arith, count))
same_rows number first (x ∷ xs) (y ∷ ys) nx ny count same =
    let found : Some x ≡ Some y = sym (at_head number x xs first nx.0) ∙ same first (omega arith) (omega arith) ∙ at_head number y ys first ny.0 in
    let head : x ≡ y = ap (λ o. unwrap_or o x) found in
    let rest : xs ≡ ys = same_rows number (first + 1) xs ys nx.1 ny.1 (omega (arith, count)) (λ n low high.
    sym (behind number x xs n (omega (arith, nx.0, low))) ∙ same n (omega (arith, low)) (omega (arith, high))
    ∙ behind number y ys n (omega (arith, ny.0, low))) in
    ap (λ a. a ∷ xs) head ∙ ap (λ zs. y ∷ zs) rest
