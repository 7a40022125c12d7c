-- The texts of the numbers of a table are those of its rows.
use Rattle.std.proofs.Common.{◌≡◌, ◌<◌, ◌≤◌, ℕ, zero, suc, ◌+◌, ◌-◌, ◌==◌, true, cond, List, [], ◌∷◌, ◌++◌, length, find, get_or, take, refl, sym, ◌∙◌, ap, arith}
use Rattle.std.specs.Prelude.{Option, Some, is_some, option_map, unwrap_or}
use Rattle.std.specs.List.{flat_map}
use Rattle.std.proofs.lemmas.Bool.{eq-eqb, ne_eqb}
use Rattle.std.proofs.lemmas.Grind.{flat_map-append}
use Rattle.std.proofs.lemmas.List.{append-nil, take_all, take_more}
use Rattle.std.proofs.lemmas.List.Concat.{flat_map-cons}
use Rattle.permit_model.specs.Numbering.{IsNumbered, IsNumberedFrom}
use Rattle.permit_replay.specs.Numbered.{numbers_text}

module _ {A : Type 0} (number : A → ℕ) where
  found : (first : ℕ) (xs : List A) → IsNumberedFrom number first xs → (k n : ℕ) (d : A) → k < length xs → n ≡ first + k
      → find (λ a. number a == n) xs ≡ Some (get_or xs k d)
  found first [] numbered k n d less at = absurd (omega (arith, less))
  found first (x ∷ xs) numbered zero n d less at =
      ap (λ b. cond b (Some x) (find (λ a. number a == n) xs)) (eq-eqb (number x) n (omega (arith, numbered.0, at)))
  found first (x ∷ xs) numbered (suc k) n d less at =
      ap (λ b. cond b (Some x) (find (λ a. number a == n) xs)) (ne_eqb (number x) n (λ e. absurd (omega (arith, numbered.0, at, e))))
      ∙ found (first + 1) xs numbered.1 k n d (omega (arith, less)) (omega (arith, at))

  its_number : (first : ℕ) (xs : List A) → IsNumberedFrom number first xs → (k n : ℕ) (d : A) → k < length xs → n ≡ first + k
      → number (get_or xs k d) ≡ n
  its_number first [] numbered k n d less at = absurd (omega (arith, less))
  its_number first (x ∷ xs) numbered zero n d less at = omega (arith, numbered.0, at)
  its_number first (x ∷ xs) numbered (suc k) n d less at = its_number (first + 1) xs numbered.1 k n d (omega (arith, less)) (omega (arith, at))

  pub is_there : (xs : List A) → IsNumbered number xs → (n : ℕ) → 1 ≤ n → n ≤ length xs → is_some (find (λ a. number a == n) xs) ≡ true
  is_there [] numbered n low high = absurd (omega (arith, low, high))
  is_there (x ∷ xs) numbered n low high =
      ap is_some (found 1 (x ∷ xs) numbered (n - 1) n x (omega (arith, low, high)) (omega (arith, low)))

  module _ (row_line : ℕ → A → List ℕ) (xs : List A) (numbered : IsNumbered number xs) where
    -- the text of the number, and that of the row
    abbrev text : ℕ → List ℕ
    text n = unwrap_or (option_map (row_line n) (find (λ a. number a == n) xs)) []

    abbrev line : A → List ℕ
    line a = row_line (number a) a

    first_texts : (d : A) (n : ℕ) → n ≤ length xs → numbers_text text n ≡ flat_map line (take n xs)
    first_texts d zero few = refl
    first_texts d (suc n) few =
        let less : n < length xs = omega (arith, few) in
        let row = get_or xs n d in
        let here : find (λ a. number a == suc n) xs ≡ Some row = found 1 xs numbered n (suc n) d less (omega arith) in
        let its : number row ≡ suc n = its_number 1 xs numbered n (suc n) d less (omega arith) in
        let same : text (suc n) ≡ line row =
        ap (λ (o : Option A). unwrap_or (option_map (row_line (suc n)) o) []) here ∙ ap (λ m. row_line m row) (sym its) in
        let after : suc n ≡ n + 1 = omega arith in
        let more : take (suc n) xs ≡ take n xs ++ row ∷ [] = ap (λ m. take m xs) after ∙ take_more xs n d less in
        let one : flat_map line (row ∷ []) ≡ line row = flat_map-cons line row [] ∙ append-nil (line row) in
        ap (λ t. t ++ text (suc n)) (first_texts d n (omega (arith, few)))
        ∙ ap (λ t. flat_map line (take n xs) ++ t) (same ∙ sym one)
        ∙ sym (ap (flat_map line) more ∙ flat_map-append line (take n xs) (row ∷ []))

  pub all_texts : (row_line : ℕ → A → List ℕ) (xs : List A) (count : ℕ) → IsNumbered number xs → count ≡ length xs
      → numbers_text (λ n. unwrap_or (option_map (row_line n) (find (λ a. number a == n) xs)) []) count ≡ flat_map (λ a. row_line (number a) a) xs
  all_texts row_line [] zero numbered is = refl
  all_texts row_line [] (suc n) numbered is = absurd (omega (arith, is))
  all_texts row_line (x ∷ xs) count numbered is =
      first_texts row_line (x ∷ xs) numbered x count (omega (arith, is))
      ∙ ap (flat_map (λ a. row_line (number a) a)) (take_all count (x ∷ xs) (omega (arith, is)))
