-- A text is read line by line.
use Rattle.std.proofs.Common.{◌≡◌, ◌↔◌, refl, sym, ap, ◌∙◌, ℕ, ◌&&◌, ◌==◌, not, nat_le, Bool, true, false, List, [], ◌∷◌, ◌++◌}
use Rattle.std.proofs.Common.{if◌then◌else◌, Option, None, Some, option_map, Ok, arith, append_assoc, ne_eqb, lt-ltb, subst}
use Rattle.std.specs.Prelude.{IsTrue}
use Rattle.std.specs.List.{list_all}
use Rattle.std.specs.Io.BufRead.{take_through, drop_through}
use Rattle.std.proofs.lemmas.Bool.{and_parts, leb-true, eqb-true, false≢true}
use Rattle.permit_history.specs.declared.entry.Entry.{Entry}
use Rattle.permit_history.specs.LineData.{line_of, text_of}
use Rattle.permit_history.specs.LineRead.{reading_of}
use Rattle.permit_history.specs.Text.{whole_line, next_line, GivesInTurn}
use Rattle.permit_history.specs.Within.{is_within}
use Rattle.permit_history.proofs.Clean.{is_mild}
use Rattle.permit_history.proofs.FineLines.{line_clean}
use Rattle.permit_history.proofs.OneText.{line_read, read_line_written}

-- ---- the bytes up to the first LF, without it

-- one test decides twice
decided : (b : Bool) (x : ℕ) (whole part : List ℕ) → (if b then Some (if b then x ∷ part else x ∷ whole) else None)
    ≡ option_map (λ line. x ∷ line) (if b then Some (if b then part else whole) else None)
decided b x whole part = grind arith

-- a byte before others that are there
before_whole : (x y : ℕ) (ys : List ℕ) → whole_line (x ∷ y ∷ ys) ≡ option_map (λ line. x ∷ line) (whole_line (y ∷ ys))
before_whole x y ys = grind (arith, lt-ltb, decided)

-- a byte before those up to the first LF
before_line : (x : ℕ) (later : List ℕ) → (x == 10) ≡ false
    → whole_line (x ∷ take_through 10 later) ≡ option_map (λ line. x ∷ line) (whole_line (take_through 10 later))
before_line x later other = grind (arith, before_whole)

lf_alone : (x : ℕ) → (x == 10) ≡ true → whole_line (x ∷ []) ≡ Some []
lf_alone x is = rw is refl

pub next_line_is : (bytes : List ℕ) → whole_line (take_through 10 bytes) ≡ next_line bytes
next_line_is [] = refl
next_line_is (x ∷ later) = by_first (next_line_is later) (x == 10) refl
  where
    by_first : whole_line (take_through 10 later) ≡ next_line later → (b : Bool) → (x == 10) ≡ b
        → whole_line (if b then x ∷ [] else x ∷ take_through 10 later) ≡ (if b then Some [] else option_map (λ line. x ∷ line) (next_line later))
    by_first rest true is = lf_alone x is
    by_first rest false other = before_line x later other ∙ ap (option_map (λ line. x ∷ line)) rest

-- ---- a line of a text

not_lf : (x : ℕ) → nat_le 32 x ≡ true → (x == 10) ≡ false
not_lf x h = ne_eqb x 10 (λ is. omega (arith, is, leb-true 32 x h))

next_of_line : (line rest : List ℕ) → is_mild line ≡ true → next_line (line ++ 10 ∷ rest) ≡ Some line
next_of_line [] rest h = refl
next_of_line (x ∷ line) rest h =
    let parts = and_parts (nat_le 32 x) _ h in
    rw (not_lf x parts.0) (ap (option_map (λ l. x ∷ l)) (next_of_line line rest parts.1))

rest_of_line : (line rest : List ℕ) → is_mild line ≡ true → drop_through 10 (line ++ 10 ∷ rest) ≡ rest
rest_of_line [] rest h = refl
rest_of_line (x ∷ line) rest h =
    let parts = and_parts (nat_le 32 x) _ h in
    rw (not_lf x parts.0) (rest_of_line line rest parts.1)

pub gives_all : (es : List Entry) (left : List ℕ) → IsTrue (list_all is_within es) → GivesInTurn (text_of es ++ left) es left
gives_all [] left h = refl
gives_all (e ∷ es) left h =
    let parts = and_parts (is_within e) _ h in
    let mild = (line_clean e parts.0).mild in
    let cut : text_of (e ∷ es) ++ left ≡ line_of e ++ 10 ∷ (text_of es ++ left) = append_assoc (line_of e) (10 ∷ text_of es) left in (
      ap (λ bytes. option_map reading_of (next_line bytes)) cut ∙ ap (option_map reading_of) (next_of_line (line_of e) (text_of es ++ left) mild)
          ∙ ap Some (line_read e parts.0),
      subst (λ bytes. GivesInTurn bytes es left) (sym (ap (drop_through 10) cut ∙ rest_of_line (line_of e) (text_of es ++ left) mild))
          (gives_all es left parts.1),
    )

-- ---- what was given

abbrev line_or : List ℕ → Option (List ℕ) → List ℕ
line_or other None = other
line_or other (Some line) = line

-- the bytes are the next line, an LF and what is after it
pub cut_at : (bytes line : List ℕ) → next_line bytes ≡ Some line → bytes ≡ line ++ 10 ∷ drop_through 10 bytes
cut_at [] line e = absurd cc
cut_at (x ∷ later) line e = by_first (λ l. cut_at later l) (x == 10) refl e
  where
    by_next : ((l : List ℕ) → next_line later ≡ Some l → later ≡ l ++ 10 ∷ drop_through 10 later) → (next : Option (List ℕ)) → next_line later ≡ next
        → option_map (λ l. x ∷ l) next ≡ Some line → x ∷ later ≡ line ++ 10 ∷ drop_through 10 later
    by_next rest None is gives = absurd cc
    by_next rest (Some l) is gives =
        let same : x ∷ l ≡ line = ap (line_or []) gives in
        ap (λ xs. x ∷ xs) (rest l is) ∙ ap (λ xs. xs ++ 10 ∷ drop_through 10 later) same

    by_first : ((l : List ℕ) → next_line later ≡ Some l → later ≡ l ++ 10 ∷ drop_through 10 later) → (b : Bool) → (x == 10) ≡ b
        → (if b then Some [] else option_map (λ l. x ∷ l) (next_line later)) ≡ Some line → x ∷ later ≡ line ++ 10 ∷ (if b then later else drop_through 10 later)
    by_first rest true is gives =
        let same : [] ≡ line = ap (line_or (10 ∷ [])) gives in
        ap (λ y. y ∷ later) (eqb-true x 10 is) ∙ ap (λ xs. xs ++ 10 ∷ later) same
    by_first rest false other gives = by_next rest (next_line later) refl gives

given_line : (bytes : List ℕ) (next : Option (List ℕ)) (e : Entry) → next_line bytes ≡ next → option_map reading_of next ≡ Some (Ok e)
    → bytes ≡ line_of e ++ 10 ∷ drop_through 10 bytes
given_line bytes None e is gives = absurd cc
given_line bytes (Some line) e is gives =
    let read : reading_of line ≡ Ok e = cc in
    cut_at bytes line is ∙ ap (λ l. l ++ 10 ∷ drop_through 10 bytes) (sym (read_line_written line e read))

pub gives_only : (bytes : List ℕ) (es : List Entry) (left : List ℕ) → GivesInTurn bytes es left → bytes ≡ text_of es ++ left
gives_only bytes [] left h = h
gives_only bytes (e ∷ es) left h =
    given_line bytes (next_line bytes) e refl h.0
    ∙ ap (λ rest. line_of e ++ 10 ∷ rest) (gives_only (drop_through 10 bytes) es left h.1)
    ∙ sym (append_assoc (line_of e) (10 ∷ text_of es) left)

-- ---- the end

abbrev has_no_lf : List ℕ → Bool
has_no_lf = list_all (λ byte. not (byte == 10))

at_end : (left : List ℕ) → next_line left ≡ None → has_no_lf left ≡ true
at_end [] h = refl
at_end (x ∷ later) h = by_first (at_end later) (x == 10) h
  where
    by_next : (next_line later ≡ None → has_no_lf later ≡ true) → (next : Option (List ℕ)) → next_line later ≡ next
        → option_map (λ l. x ∷ l) next ≡ None → has_no_lf later ≡ true
    by_next rest None is gives = rest is
    by_next rest (Some l) is gives = absurd cc

    by_first : (next_line later ≡ None → has_no_lf later ≡ true) → (b : Bool)
        → (if b then Some [] else option_map (λ l. x ∷ l) (next_line later)) ≡ None → (not b && has_no_lf later) ≡ true
    by_first rest true gives = absurd cc
    by_first rest false gives = by_next rest (next_line later) refl gives

end_at : (left : List ℕ) → has_no_lf left ≡ true → next_line left ≡ None
end_at [] h = refl
end_at (x ∷ later) h = by_first (end_at later) (x == 10) h
  where
    by_first : (has_no_lf later ≡ true → next_line later ≡ None) → (b : Bool) → (not b && has_no_lf later) ≡ true
        → (if b then Some [] else option_map (λ l. x ∷ l) (next_line later)) ≡ None
    by_first rest true gives = absurd (false≢true gives)
    by_first rest false gives = ap (option_map (λ l. x ∷ l)) (rest gives)

pub ends : (left : List ℕ) → (next_line left ≡ None) ↔ IsTrue (has_no_lf left)
ends left = (at_end left, end_at left)
