-- The parts of a register make its text.
use Rattle.std.proofs.Common.{◌≡◌, ℕ, suc, ◌+◌, ◌==◌, false, List, [], ◌∷◌, ◌++◌, length, refl, sym, ap, ◌∙◌, arith, append_assoc}
use Rattle.std.proofs.lemmas.Bool.Decides.{nat_tests}
use Rattle.permit_base.specs.declared.words.RegisterKind.{RegisterKind}
use Rattle.permit_model.specs.Register.{header, file_line, file_lines, foot, register_text}
use Rattle.permit_model.specs.Tables.{FileView}
use Rattle.permit_report.specs.Progress.{Progress, opening, part, ending, one_line_more}

-- what some files add
abbrev pub parts : Progress → List FileView → List ℕ
parts at [] = []
parts at (file ∷ files) = part at file ++ parts (one_line_more at) files

-- where a register is after so many lines more
abbrev pub later : Progress → ℕ → Progress
later at n = record at { lines = at.lines + n }

-- after a line no header follows
opening_later : (kind : RegisterKind) (n : ℕ) → opening kind (n + 1) ≡ []
opening_later kind n = let later : n + 1 == 0 ≡ false = grind (arith, nat_tests) in rw later refl

pub later_none : (at : Progress) → at ≡ later at 0
later_none at = let e : at.lines ≡ at.lines + 0 = omega arith in ap (λ (n : ℕ). record at { lines = n }) e

pub later_more : (at : Progress) (n : ℕ) → later (one_line_more at) n ≡ later at (suc n)
later_more at n = let e : at.lines + 1 + n ≡ at.lines + suc n = omega arith in ap (λ (m : ℕ). record at { lines = m }) e

-- the parts of some files and then of others
pub parts-append : (at : Progress) (xs ys : List FileView) → parts at (xs ++ ys) ≡ parts at xs ++ parts (later at (length xs)) ys
parts-append at [] ys = ap (λ (p : Progress). parts p ys) (later_none at)
parts-append at (x ∷ xs) ys =
    ap (λ t. part at x ++ t) (parts-append (one_line_more at) xs ys ∙ ap (λ (p : Progress). parts (one_line_more at) xs ++ parts p ys)
    (later_more at (length xs)))
    ∙ sym (append_assoc (part at x) (parts (one_line_more at) xs) (parts (later at (suc (length xs))) ys))

-- the lines of some files, before what follows them
parts_and : (at : Progress) (files : List FileView) (rest : List ℕ) → parts at files
    ++ (opening at.kind (at.lines + length files) ++ rest) ≡ opening at.kind at.lines ++ (file_lines at.kind at.day files ++ rest)
parts_and at [] rest = let e : at.lines + 0 ≡ at.lines = omega arith in rw e refl
parts_and at (f ∷ files) rest =
    let e : at.lines + suc (length files) ≡ at.lines + 1 + length files = omega arith in
    rw e (
    append_assoc (part at f) (parts (one_line_more at) files) (opening at.kind (at.lines + 1 + length files) ++ rest)
    ∙ ap (λ t. part at f ++ t) (parts_and (one_line_more at) files rest
    ∙ ap (λ t. t ++ (file_lines at.kind at.day files ++ rest)) (opening_later at.kind at.lines))
    ∙ append_assoc (opening at.kind at.lines) (file_line at.kind at.day f) (file_lines at.kind at.day files ++ rest)
    ∙ ap (λ t. opening at.kind at.lines ++ t) (sym (append_assoc (file_line at.kind at.day f) (file_lines at.kind at.day files) rest)))

parts_from_none : (kind : RegisterKind) (day n : ℕ) (files : List FileView) → n ≡ length files
    → parts (record { kind = kind; day = day; lines = 0 }) files ++ (opening kind n ++ foot n) ≡ header kind
    ++ (file_lines kind day files ++ foot (length files))
parts_from_none kind day n files e =
    let z : n ≡ 0 + length files = omega arith in
    ap (λ m. parts (record { kind = kind; day = day; lines = 0 }) files ++ (opening kind m ++ foot n)) z
    ∙ ap (λ m. parts (record { kind = kind; day = day; lines = 0 }) files ++ (opening kind (0 + length files) ++ foot m)) e
    ∙ parts_and (record { kind = kind; day = day; lines = 0 }) files (foot (length files))

-- the parts of the files and the ending are the register's text
pub register_text_parts : (kind : RegisterKind) (day : ℕ) (files : List FileView) (start : Progress) → start ≡ record { kind = kind; day = day; lines = 0 }
    → register_text kind day files ≡ parts start files ++ ending (later start (length files))
register_text_parts kind day files start e =
    let none : 0 + length files ≡ length files = omega arith in
    append_assoc (header kind) (file_lines kind day files) (foot (length files))
    ∙ sym (parts_from_none kind day (0 + length files) files none)
    ∙ ap (λ (p : Progress). parts p files ++ ending (later p (length files))) (sym e)
