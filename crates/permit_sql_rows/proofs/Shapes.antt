-- A table and an index as the program describes them.
use Rattle.std.proofs.Common.{◌≡◌, ◌≢◌, refl, ap, ℕ, ◌<◌, ◌≤◌, List, [], ◌∷◌, length, get_or, arith}
use Rattle.permit_sql_rows.specs.Shape.{keys_of}

pub one_key : (all : List (List ℕ)) (key other : List ℕ) → 1 ≤ length all → length all < 2 → key ≢ [] → get_or all 0 other ≡ key → all ≡ keys_of key
one_key [] key other low high some same = absurd (omega (arith, low))
one_key (x ∷ []) [] other low high some same = absurd (some refl)
one_key (x ∷ []) (place ∷ places) other low high some same = ap (λ k. k ∷ []) same
one_key (x ∷ y ∷ more) key other low high some same = absurd (omega (arith, high))

pub only_key : (all : List (List ℕ)) (key other : List ℕ) → key ≢ [] → all ≡ keys_of key → get_or all 0 other ≡ key
only_key all [] other some is = absurd (some refl)
only_key all (place ∷ places) other some is = ap (λ l. get_or l 0 other) is

pub six_are : {A : Type 0} (xs : List A) (a b c d e f a0 b0 c0 d0 e0 f0 : A) → length xs ≡ 6 → get_or xs 0 a0 ≡ a → get_or xs 1 b0 ≡ b → get_or xs 2 c0 ≡ c →
    get_or xs 3 d0 ≡ d → get_or xs 4 e0 ≡ e → get_or xs 5 f0 ≡ f → xs ≡ a ∷ b ∷ c ∷ d ∷ e ∷ f ∷ []
six_are [] a b c d e f a0 b0 c0 d0 e0 f0 long is0 is1 is2 is3 is4 is5 = absurd (omega (arith, long))
six_are (x0 ∷ []) a b c d e f a0 b0 c0 d0 e0 f0 long is0 is1 is2 is3 is4 is5 = absurd (omega (arith, long))
six_are (x0 ∷ x1 ∷ []) a b c d e f a0 b0 c0 d0 e0 f0 long is0 is1 is2 is3 is4 is5 = absurd (omega (arith, long))
six_are (x0 ∷ x1 ∷ x2 ∷ []) a b c d e f a0 b0 c0 d0 e0 f0 long is0 is1 is2 is3 is4 is5 = absurd (omega (arith, long))
six_are (x0 ∷ x1 ∷ x2 ∷ x3 ∷ []) a b c d e f a0 b0 c0 d0 e0 f0 long is0 is1 is2 is3 is4 is5 = absurd (omega (arith, long))
six_are (x0 ∷ x1 ∷ x2 ∷ x3 ∷ x4 ∷ []) a b c d e f a0 b0 c0 d0 e0 f0 long is0 is1 is2 is3 is4 is5 = absurd (omega (arith, long))
six_are (x0 ∷ x1 ∷ x2 ∷ x3 ∷ x4 ∷ x5 ∷ []) a b c d e f a0 b0 c0 d0 e0 f0 long is0 is1 is2 is3 is4 is5 = cc
six_are (x0 ∷ x1 ∷ x2 ∷ x3 ∷ x4 ∷ x5 ∷ x6 ∷ more) a b c d e f a0 b0 c0 d0 e0 f0 long is0 is1 is2 is3 is4 is5 = absurd (omega (arith, long))
