-- Where the lines of a text end, as it is added to.
use Rattle.std.proofs.Common.{◌≡◌, ◌∙◌, ap, sym, subst, refl, ℕ, ◌+◌, ◌-◌, true, false, List, [], ◌∷◌, ◌++◌, length, take, Option, None, Some, IfSome, length-append, take_all, arith}
use Rattle.std.specs.Prelude.{option_map, OnSome}
use Rattle.std.specs.Io.KnownBytes.{Consumes, IsAtEnd}
use Rattle.std.proofs.KnownBytes.{Consumes-trans, Consumes-whole}
use Rattle.std.proofs.lemmas.List.{take-append-le}
use Rattle.permit_history.specs.Evidence.{ends_line, line_count, lines_of}
use Rattle.permit_history.specs.LineEnds.{EndAt}
use Rattle.permit_history.specs.Settled.{EndsAt}
use Rattle.permit_history.proofs.FirstLines.{line_count-append, lines_of-append, lines_of-more}

-- what follows moves no end of a line
pub EndsAt-append : (lines : ℕ) (xs ys : List ℕ) (n : ℕ) → EndsAt lines xs n → EndsAt lines (xs ++ ys) n
EndsAt-append lines xs ys n is = record {
  text = lines_of-append lines xs ys (take n xs) is.text ∙ ap Some (sym (take-append-le n xs ys is.within));
  within = omega (arith, is.within, length-append xs ys);
}

module _ (bytes : List ℕ) (x here there : ℕ) (is : EndAt bytes here there) where
  -- a byte that ends no line
  pub added_no : ends_line x ≡ false → EndAt (bytes ++ x ∷ []) here there
  added_no other =
      let none : line_count (x ∷ []) ≡ 0 = rw other refl in
      let count : line_count bytes ≡ line_count (bytes ++ x ∷ []) = omega (arith, none, line_count-append bytes (x ∷ [])) in record {
        last = subst (λ k. EndsAt k (bytes ++ x ∷ []) here) count (EndsAt-append (line_count bytes) bytes (x ∷ []) here is.last);
        settled = subst (λ k. EndsAt (k - 1) (bytes ++ x ∷ []) there) count (EndsAt-append (line_count bytes - 1) bytes (x ∷ []) there is.settled);
      }

  -- a byte that ends one: the one before it ends where the last one did
  pub added_yes : ends_line x ≡ true → EndAt (bytes ++ x ∷ []) (length bytes + 1) here
  added_yes ends =
      let one : line_count (x ∷ []) ≡ 1 = rw ends refl in
      let line : lines_of 1 (x ∷ []) ≡ Some (x ∷ []) = rw ends refl in
      let long = length-append bytes (x ∷ []) in
      let whole : take (length bytes + 1) (bytes ++ x ∷ []) ≡ bytes ++ x ∷ [] = take_all _ _ (omega (arith, long)) in
      let count : line_count bytes + 1 ≡ line_count (bytes ++ x ∷ []) = omega (arith, one, line_count-append bytes (x ∷ [])) in
      let before : line_count bytes ≡ line_count (bytes ++ x ∷ []) - 1 = omega (arith, count) in record {
        last = subst (λ k. EndsAt k (bytes ++ x ∷ []) (length bytes + 1)) count (record {
          text = lines_of-more (line_count bytes + 1) 1 bytes (x ∷ []) (omega arith) refl ∙ ap (option_map (λ text. bytes ++ text)) line ∙ ap Some (sym whole);
          within = omega (arith, long);
        });
        settled = subst (λ k. EndsAt k (bytes ++ x ∷ []) here) before (EndsAt-append (line_count bytes) bytes (x ∷ []) here is.last);
      }

-- what holds of all that is read holds of the text, where none of it is left
pub of_text : (before mid after : Option (List ℕ)) (done piece : List ℕ) (P : List ℕ → Type 0) → Consumes before mid done → Consumes mid after piece
    → OnSome mid (IsAtEnd after) → P (done ++ piece) → IfSome before P
of_text None mid after done piece P first taken end is = tt
of_text (Some bytes) None after done piece P first taken end is = absurd first
of_text (Some bytes) (Some left) after done piece P first taken end is =
    Consumes-whole (Some bytes) after (done ++ piece) P (Consumes-trans (Some bytes) (Some left) after done piece first taken) end is
