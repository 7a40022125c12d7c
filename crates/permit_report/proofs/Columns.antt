-- Lines as they are made, one column after another.
use Rattle.std.proofs.Common.{◌≡◌, ℕ, ◌+◌, ◌<◌, ◌≤◌, List, [], ◌∷◌, ◌++◌, sym, ap, ◌∙◌, arith, append_assoc}

-- the whole begins with what is made, and a column follows
pub column : (old new said piece rest whole : List ℕ) → new ≡ old ++ (said ++ 32 ∷ []) → said ≡ piece → whole ≡ old ++ (piece ++ 32 ∷ rest) →
    whole ≡ new ++ rest
column old new said piece rest whole made same is =
    is ∙ ap (λ x. old ++ (x ++ 32 ∷ rest)) (sym same) ∙ sym (ap (λ x. x ++ rest) made ∙ append_assoc old (said ++ 32 ∷ []) rest
    ∙ ap (λ x. old ++ x) (append_assoc said (32 ∷ []) rest))

-- the last column
pub last_column : (old new said piece whole : List ℕ) → new ≡ old ++ (said ++ 10 ∷ []) → said ≡ piece → whole ≡ old ++ (piece ++ 10 ∷ []) → new ≡ whole
last_column old new said piece whole made same is = made ∙ ap (λ x. old ++ (x ++ 10 ∷ [])) same ∙ sym is

-- nothing is made yet
pub first_column : (start whole : List ℕ) → start ≡ [] → whole ≡ start ++ whole
first_column start whole e = sym (ap (λ x. x ++ whole) e)

-- the room for one column more
pub room_for : (was now wide text next : ℕ) → now ≤ was + wide + text + 1 → was + wide + text + 1 + next < 256 → now + next < 256
room_for was now wide text next h k = omega arith
