-- The first lines of a text are those of its first entries.
use Rattle.std.proofs.Common.{◌≡◌, ◌∙◌, ap, sym, refl, ℕ, suc, ◌+◌, Bool, true, false, cond, List, [], ◌∷◌, ◌++◌, length, Option, None, Some, Ok, arith}
use Rattle.std.specs.Prelude.{◌==◌, if◌then◌else◌, option_map}
use Rattle.std.specs.Io.BufRead.{drop_through}
use Rattle.std.proofs.lemmas.List.Sums.{sum_by-cons}
use Rattle.permit_history.specs.Evidence.{ends_line, line_count, lines_of}
use Rattle.permit_history.specs.LineData.{text_of}
use Rattle.permit_history.specs.LineRead.{reading_of}
use Rattle.permit_history.specs.Text.{next_line, GivesInTurn}
use Rattle.permit_history.specs.declared.entry.Entry.{Entry}
use Rattle.permit_history.proofs.FirstLines.{lines_of-more}
use Rattle.permit_history.proofs.LineByLine.{cut_at}
use Rattle.permit_history.proofs.OneText.{read_line_written}

-- a line has no LF in it
next_plain : (bytes line : List ℕ) → next_line bytes ≡ Some line → line_count line ≡ 0
next_plain [] line is = absurd (let bad : None ≡ Some line = is in cc)
next_plain (x ∷ later) line is = by_first (next_plain later) (x == 10) refl is
  where
    by_next : ((l : List ℕ) → next_line later ≡ Some l → line_count l ≡ 0) → ends_line x ≡ false → (next : Option (List ℕ)) → next_line later ≡ next
        → option_map (λ l. x ∷ l) next ≡ Some line → line_count line ≡ 0
    by_next rest plain None is gives = absurd (let bad : None ≡ Some line = gives in cc)
    by_next rest plain (Some l) is gives =
        let same : line ≡ x ∷ l = cc in
        ap line_count same ∙ sum_by-cons (λ y. cond (ends_line y) 1 0) x l ∙ ap (λ b. cond b 1 0 + line_count l) plain ∙ omega (arith, rest l is)

    by_first : ((l : List ℕ) → next_line later ≡ Some l → line_count l ≡ 0) → (b : Bool) → (x == 10) ≡ b
        → (if b then Some [] else option_map (λ l. x ∷ l) (next_line later)) ≡ Some line → line_count line ≡ 0
    by_first rest true ends gives = let same : line ≡ [] = cc in ap line_count same
    by_first rest false plain gives = by_next rest plain (next_line later) refl gives

first_line : (n : ℕ) (line rest : List ℕ) → line_count line ≡ 0 → lines_of (suc n) (line ++ 10 ∷ rest) ≡ option_map (λ text. line ++ text) (lines_of (suc n) (10 ∷ rest))
first_line n line rest plain = lines_of-more (suc n) (suc n) line (10 ∷ rest) (omega arith) (omega (arith, plain))

pub first_entries : (bytes : List ℕ) (es : List Entry) (left : List ℕ) → GivesInTurn bytes es left → lines_of (length es) bytes ≡ Some (text_of es)
first_entries bytes [] left gives = refl
first_entries bytes (e ∷ es) left gives = by_next (next_line bytes) refl gives.0 (first_entries (drop_through 10 bytes) es left gives.1)
  where
    by_next : (next : Option (List ℕ)) → next_line bytes ≡ next → option_map reading_of next ≡ Some (Ok e)
        → lines_of (length es) (drop_through 10 bytes) ≡ Some (text_of es) → lines_of (length (e ∷ es)) bytes ≡ Some (text_of (e ∷ es))
    by_next None is gives rest = absurd (let bad : None ≡ Some (Ok e) = gives in cc)
    by_next (Some line) is gives rest =
        let read : reading_of line ≡ Ok e = cc in
        ap (lines_of (suc (length es))) (cut_at bytes line is) ∙ first_line (length es) line (drop_through 10 bytes) (next_plain bytes line is)
        ∙ ap (λ o. option_map (λ text. line ++ text) (option_map (λ later. 10 ∷ later) o)) rest
        ∙ ap (λ l. Some (l ++ 10 ∷ text_of es)) (sym (read_line_written line e read))
