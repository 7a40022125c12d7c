-- Where a record lies in a list that is numbered without a gap.
use Rattle.std.proofs.Common.{◌≡◌, ◌<◌, ℕ, zero, suc, ◌+◌, ◌==◌, Bool, true, false, cond, List, [], ◌∷◌, ◌++◌, length, map, find, take, get_or, slice_get, set}
use Rattle.std.proofs.Common.{◌≤◌, ◌⊎◌, inl, inr, refl, add-one, sym, ◌∙◌, ap, arith}
use Rattle.std.specs.Prelude.{Some, if◌then◌else◌}
use Rattle.std.proofs.lemmas.Bool.Decides.{nat_tests}
use Rattle.std.specs.List.{position_or_len, range_with_len}
use Rattle.std.proofs.lemmas.List.Sums.{position_or_len_is}
use Rattle.permit_model.specs.Numbering.{IsNumberedFrom}
use Rattle.permit_model.specs.Tables.{State}
use Rattle.permit_store.specs.Changes.{with_state}
use Rattle.permit_store.specs.Plain.{KeptFile, AreInPlace}

same_test : (a b : ℕ) → a ≡ b → (a == b) ≡ true
same_test a b e = grind (arith, nat_tests)

other_test : (a b : ℕ) → a < b → (a == b) ≡ false
other_test a b less = grind (arith, nat_tests)

past_test : (a b : ℕ) → b < a → (a == b) ≡ false
past_test a b less = grind (arith, nat_tests)

-- the record of a number lies as far from the first as its number does
pub found_at : {A : Type 0} (number : A → ℕ) (first id place : ℕ) (xs : List A) → id ≡ first + place → IsNumberedFrom number first xs →
    find (λ x. number x == id) xs ≡ slice_get xs place
found_at number first id place [] e numbered = refl
found_at number first id zero (x ∷ xs) e numbered =
    ap (λ b. cond b (Some x) (find (λ x. number x == id) xs)) (same_test (number x) id (omega (arith, e, numbered.0)))
found_at number first id (suc place) (x ∷ xs) e numbered =
    ap (λ b. cond b (Some x) (find (λ x. number x == id) xs)) (other_test (number x) id (omega (arith, e, numbered.0)))
    ∙ found_at number (first + 1) id place xs (omega (arith, e)) numbered.1

number_at : {A : Type 0} (number : A → ℕ) (first place : ℕ) (xs : List A) (d : A) → place < length xs → IsNumberedFrom number first xs →
    number (get_or xs place d) ≡ first + place
number_at number first place [] d within numbered = absurd (omega arith)
number_at number first zero (x ∷ xs) d within numbered = omega (arith, numbered.0)
number_at number first (suc place) (x ∷ xs) d within numbered =
    let there : number (get_or xs place d) ≡ first + 1 + place = number_at number (first + 1) place xs d (omega arith) numbered.1 in
    omega (arith, there)

-- and at no place before
pub is_place : {A : Type 0} (number : A → ℕ) (first id place : ℕ) (xs : List A) (d : A) → id ≡ first + place → place < length xs →
    IsNumberedFrom number first xs → place ≡ position_or_len (λ x. number x == id) xs
is_place number first id place xs d e within numbered = sym (position_or_len_is (λ x. number x == id) xs place d (omega (arith, within))
    (λ k less. other_test (number (get_or xs k d)) id (omega (arith, e, number_at number first k xs d (omega (arith, less, within)) numbered)))
    (λ _. same_test (number (get_or xs place d)) id (omega (arith, e, number_at number first place xs d within numbered))))

-- ---- a file's new row

rows_later : (id first : ℕ) (state : State) (files : List KeptFile) → id < first → IsNumberedFrom (λ k. k.row.id) first files →
    map (with_state id state) (map (λ k. k.row) files) ≡ map (λ k. k.row) files
rows_later id first state [] less numbered = refl
rows_later id first state (k ∷ files) less numbered =
    ap (λ b. cond b (record k.row { state = state }) k.row ∷ map (with_state id state) (map (λ k. k.row) files))
    (past_test k.row.id id (omega (arith, less, numbered.0)))
    ∙ ap (λ rows. k.row ∷ rows) (rows_later id (first + 1) state files (omega (arith, less)) numbered.1)

-- a file's new row is at its place alone
pub rows_at : (id first place : ℕ) (state : State) (files : List KeptFile) (d new : KeptFile) → new.row ≡ record (get_or files place d).row { state = state } →
    id ≡ first + place → place < length files → IsNumberedFrom (λ k. k.row.id) first files →
    map (λ k. k.row) (set files place new) ≡ map (with_state id state) (map (λ k. k.row) files)
rows_at id first place state [] d new row e within numbered = absurd (omega arith)
rows_at id first zero state (k ∷ files) d new row e within numbered =
    ap (λ r. r ∷ map (λ k. k.row) files) row
    ∙ ap (λ rows. record k.row { state = state } ∷ rows) (sym (rows_later id (first + 1) state files (omega (arith, e)) numbered.1))
    ∙ ap (λ b. cond b (record k.row { state = state }) k.row ∷ map (with_state id state) (map (λ k. k.row) files))
    (sym (same_test k.row.id id (omega (arith, e, numbered.0))))
rows_at id first (suc place) state (k ∷ files) d new row e within numbered =
    ap (λ rows. k.row ∷ rows) (rows_at id (first + 1) place state files d new row (omega (arith, e)) (omega arith) numbered.1)
    ∙ ap (λ b. cond b (record k.row { state = state }) k.row ∷ map (with_state id state) (map (λ k. k.row) files))
    (sym (other_test k.row.id id (omega (arith, e, numbered.0))))

-- ---- the numbers

-- files in their places are numbered from 1
pub numbered_from : {A : Type 0} (number : A → ℕ) (first : ℕ) (xs : List A) → map number xs ≡ range_with_len first (length xs) → IsNumberedFrom number first xs
numbered_from number first [] e = tt
numbered_from number first (x ∷ xs) e =
    let head : number x ≡ first = cc in
    let rest : map number xs ≡ range_with_len (first + 1) (length xs) = cc in
    (head, numbered_from number (first + 1) xs rest)

-- one that is written over by one of its number leaves the numbers
pub numbers_set : {A : Type 0} (number : A → ℕ) (xs : List A) (i : ℕ) (d new : A) → number new ≡ number (get_or xs i d) → i < length xs →
    map number (set xs i new) ≡ map number xs
numbers_set number [] i d new e within = absurd (omega arith)
numbers_set number (x ∷ xs) zero d new e within = ap (λ n. n ∷ map number xs) e
numbers_set number (x ∷ xs) (suc i) d new e within = ap (λ ns. number x ∷ ns) (numbers_set number xs i d new e (omega arith))

-- one more has the next number
pub numbers_more : {A : Type 0} (number : A → ℕ) (first : ℕ) (xs : List A) (new : A) → number new ≡ first + length xs →
    map number xs ≡ range_with_len first (length xs) →
    map number (xs ++ new ∷ []) ≡ range_with_len first (length (xs ++ new ∷ []))
numbers_more number first [] new e all =
    let first_number : number new ≡ first = omega (arith, e) in
    ap (λ n. n ∷ []) first_number
numbers_more number first (x ∷ xs) new e all =
    let head : number x ≡ first = cc in
    let rest : map number xs ≡ range_with_len (first + 1) (length xs) = cc in
    ap (λ n. n ∷ map number (xs ++ new ∷ [])) head ∙ ap (λ ns. first ∷ ns) (numbers_more number (first + 1) xs new (omega (arith, e)) rest)

-- one more file is in its place, or there is none
pub in_place_pushed : (b : Bool) (files later : List KeptFile) (new : KeptFile) → later ≡ (if b then files ++ new ∷ [] else files) →
    new.row.id ≡ 1 + length files → AreInPlace files → AreInPlace later
in_place_pushed true files later new e number all = rw e (numbers_more (λ k. k.row.id) 1 files new number all)
in_place_pushed false files later new e number all = rw e all

-- ---- the records before a place, and the one at it

take_get : {A : Type 0} (xs : List A) (n : ℕ) (x : A) → slice_get xs n ≡ Some x → take n xs ++ x ∷ [] ≡ take (suc n) xs
take_get [] n x e = cc
take_get (y ∷ xs) zero x e = let same : y ≡ x = cc in ap (λ z. z ∷ []) (sym same)
take_get (y ∷ xs) (suc n) x e = ap (λ ys. y ∷ ys) (take_get xs n x e)

-- the record of the next number
pub taken_more : {A : Type 0} (number : A → ℕ) (xs : List A) (n id : ℕ) (x : A) → id ≡ 1 + n → IsNumberedFrom number 1 xs →
    Some x ≡ find (λ x. number x == id) xs → take n xs ++ x ∷ [] ≡ take (n + 1) xs
taken_more number xs n id x e numbered found = rw add-one (take_get xs n x (sym (found_at number 1 id n xs e numbered) ∙ sym found))

-- ---- a record that is changed

none_changed : {A : Type 0} (number : A → ℕ) (change : A → A) (id first : ℕ) (xs : List A) → ((x : A) → (number x == id) ≡ false → change x ≡ x) →
    (id < first) ⊎ (first + length xs ≤ id) → IsNumberedFrom number first xs → map change xs ≡ xs
none_changed number change id first [] others past numbered = refl
none_changed number change id first (x ∷ xs) others past numbered =
    let other : (number x == id) ≡ false = grind (arith, nat_tests, past, numbered.0) in
    let rest : (id < first + 1) ⊎ (first + 1 + length xs ≤ id) = grind (arith, past) in
    ap (λ y. y ∷ map change xs) (others x other) ∙ ap (λ ys. x ∷ ys) (none_changed number change id (first + 1) xs others rest numbered.1)

-- a change of the records of a number that no record has changes none
pub changed_nowhere : {A : Type 0} (number : A → ℕ) (change : A → A) (id : ℕ) (xs : List A) → ((x : A) → (number x == id) ≡ false → change x ≡ x) →
    length xs < id → IsNumberedFrom number 1 xs → xs ≡ map change xs
changed_nowhere number change id xs others past numbered = sym (none_changed number change id 1 xs others (inr (omega arith)) numbered)

-- a change of the records of a number changes the one at its place alone
pub changed_at : {A : Type 0} (number : A → ℕ) (change : A → A) (id first place : ℕ) (xs : List A) (d new : A) →
    ((x : A) → (number x == id) ≡ false → change x ≡ x) →
    ((number (get_or xs place d) == id) ≡ true → new ≡ change (get_or xs place d)) → id ≡ first + place → place < length xs → IsNumberedFrom number first xs →
    set xs place new ≡ map change xs
changed_at number change id first place [] d new others this e within numbered = absurd (omega arith)
changed_at number change id first zero (x ∷ xs) d new others this e within numbered =
    ap (λ y. y ∷ xs) (this (same_test (number x) id (omega (arith, e, numbered.0))))
    ∙ ap (λ ys. change x ∷ ys) (sym (none_changed number change id (first + 1) xs others (inl (omega (arith, e))) numbered.1))
changed_at number change id first (suc place) (x ∷ xs) d new others this e within numbered =
    ap (λ ys. x ∷ ys) (changed_at number change id (first + 1) place xs d new others this (omega (arith, e)) (omega arith) numbered.1)
    ∙ ap (λ y. y ∷ map change xs) (sym (others x (other_test (number x) id (omega (arith, e, numbered.0)))))
