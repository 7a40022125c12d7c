-- The first lines of a text, as it is added to.
use Rattle.std.proofs.Common.{◌≡◌, ◌∙◌, ap, subst, refl, ℕ, zero, suc, ◌+◌, ◌<◌, Bool, true, false, cond, List, [], ◌∷◌, ◌++◌, Option, None, Some, arith}
use Rattle.std.specs.Prelude.{option_map}
use Rattle.std.proofs.lemmas.List.Sums.{sum_by-append, sum_by-cons}
use Rattle.permit_history.specs.Evidence.{ends_line, line_count, lines_of}

pub line_count-append : (xs ys : List ℕ) → line_count (xs ++ ys) ≡ line_count xs + line_count ys
line_count-append xs ys = sum_by-append (λ x. cond (ends_line x) 1 0) xs ys

line_count-cons : (x : ℕ) (xs : List ℕ) → line_count (x ∷ xs) ≡ cond (ends_line x) 1 0 + line_count xs
line_count-cons x xs = sum_by-cons (λ y. cond (ends_line y) 1 0) x xs

-- where one value comes of another by the map, the other is there
pub mapped : {A B : Type 0} (f : A → B) (o p : Option A) (y : B) → option_map f o ≡ Some y → ((x : A) → o ≡ Some x → p ≡ Some x) → option_map f p ≡ Some y
mapped f None p y e same = let bad : None ≡ Some y = e in cc
mapped f (Some x) p y e same = ap (option_map f) (same x refl) ∙ e

-- what follows later changes no line
pub lines_of-append : (n : ℕ) (xs ys text : List ℕ) → lines_of n xs ≡ Some text → lines_of n (xs ++ ys) ≡ Some text
lines_of-append zero xs ys text e = e
lines_of-append (suc n) [] ys text e = let bad : None ≡ Some text = e in cc
lines_of-append (suc n) (x ∷ xs) ys text e =
    mapped (λ later. x ∷ later) (lines_of (cond (ends_line x) n (suc n)) xs) (lines_of (cond (ends_line x) n (suc n)) (xs ++ ys)) text e
    (λ later. lines_of-append (cond (ends_line x) n (suc n)) xs ys later)

-- how many lines are wanted after a byte
left_after : (b : Bool) (n c more : ℕ) → suc n ≡ (cond b 1 0 + c) + more → cond b n (suc n) ≡ c + more
left_after true n c more e = omega (arith, e)
left_after false n c more e = omega (arith, e)

fewer_after : (b : Bool) (n c : ℕ) → cond b 1 0 + c < suc n → c < cond b n (suc n)
fewer_after true n c less = omega (arith, less)
fewer_after false n c less = omega (arith, less)

mapped_same : (o : Option (List ℕ)) → o ≡ option_map (λ text. [] ++ text) o
mapped_same None = refl
mapped_same (Some text) = refl

mapped_twice : (x : ℕ) (xs : List ℕ) (o : Option (List ℕ)) → option_map (λ later. x ∷ later) (option_map (λ text. xs ++ text) o) ≡ option_map (λ text. (x ∷ xs) ++ text) o
mapped_twice x xs None = refl
mapped_twice x xs (Some text) = refl

-- more lines than a text has are the text and those after it
pub lines_of-more : (n more : ℕ) (xs ys : List ℕ) → 0 < more → n ≡ line_count xs + more → lines_of n (xs ++ ys) ≡ option_map (λ text. xs ++ text) (lines_of more ys)
lines_of-more n more [] ys some e = ap (λ k. lines_of k ys) (omega (arith, e)) ∙ mapped_same (lines_of more ys)
lines_of-more zero more (x ∷ xs) ys some e = absurd (omega (arith, e, some))
lines_of-more (suc n) more (x ∷ xs) ys some e =
    ap (option_map (λ later. x ∷ later)) (lines_of-more (cond (ends_line x) n (suc n)) more xs ys some (left_after (ends_line x) n (line_count xs) more (e ∙ ap (λ k. k + more) (line_count-cons x xs))))
    ∙ mapped_twice x xs (lines_of more ys)

-- a text has no more lines than it has LFs
pub lines_of-none : (n : ℕ) (xs : List ℕ) → line_count xs < n → lines_of n xs ≡ None
lines_of-none zero xs less = absurd (omega (arith, less))
lines_of-none (suc n) [] less = refl
lines_of-none (suc n) (x ∷ xs) less =
    ap (option_map (λ later. x ∷ later)) (lines_of-none (cond (ends_line x) n (suc n)) xs (fewer_after (ends_line x) n (line_count xs) (subst (λ k. k < suc n) (line_count-cons x xs) less)))
