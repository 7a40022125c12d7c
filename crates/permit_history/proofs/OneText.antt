-- The line of an entry is read as that entry, so no two entries have one line, and no two lists of entries one text.
use Rattle.std.proofs.Common.{◌≡◌, refl, sym, ap, ◌∙◌, ℕ, nat_le, nat_lt, Bool, true, List, [], ◌∷◌, ◌++◌, length, bytes_eq, if◌then◌else◌}
use Rattle.std.proofs.Common.{Option, None, Some, Result, Ok, Err, arith, length-append, le-ltb}
use Rattle.std.specs.Prelude.{IsTrue}
use Rattle.std.specs.List.{list_all}
use Rattle.std.specs.Str.{is_utf8}
use Rattle.std.proofs.lemmas.Bool.{and_parts, leb-true}
use Rattle.std.proofs.lemmas.Slice.Eq.{bytes_eq-Decides}
use Rattle.std.proofs.lemmas.Str.{is_utf8-from_IsUtf8}
use Rattle.serde_json.specs.Data.{Data}
use Rattle.serde_json.specs.Read.{read}
use Rattle.permit_history.specs.declared.entry.Entry.{Entry}
use Rattle.permit_history.specs.declared.fault.LineFault.{LineFault}
use Rattle.permit_history.specs.declared.fault.LineFault.TheVariants.{Long, Form}
use Rattle.permit_history.specs.Fields.{said}
use Rattle.permit_history.specs.LineData.{line_data, line_of, text_of}
use Rattle.permit_history.specs.LineRead.{longest_line, answer_for, answer_to, reading_of}
use Rattle.permit_history.specs.Within.{is_within}
use Rattle.permit_history.proofs.Clean.{is_mild}
use Rattle.permit_history.proofs.FieldsRead.{entry_read}
use Rattle.permit_history.proofs.FineLines.{line_clean, line_short}
use Rattle.permit_history.proofs.PlainLines.{line_plain}
use Rattle.permit_history.proofs.RoundTrip.{read-compact_text}

pub line_utf8 : (e : Entry) → IsTrue (is_within e) → is_utf8 (line_of e) ≡ true
line_utf8 e h = is_utf8-from_IsUtf8 _ (line_clean e h).utf8

line_said : (e : Entry) → IsTrue (is_within e) → read (line_of e) ≡ Some (line_data e)
line_said e h = read-compact_text 2 (line_data e) (line_plain e h) (omega arith)

-- ---- one line

own_line : (e : Entry) → answer_for (line_of e) (Some e) ≡ Ok e
own_line e = rw ((bytes_eq-Decides (line_of e) (line_of e)).1 refl) refl

pub line_read : (e : Entry) → IsTrue (is_within e) → reading_of (line_of e) ≡ Ok e
line_read e h = grind (arith, le-ltb, line_short, line_utf8, line_said, entry_read, own_line)

abbrev ok_or : Entry → Result Entry LineFault → Entry
ok_or other (Ok e) = e
ok_or other (Err fault) = other

chosen : (b : Bool) (line : List ℕ) (a e : Entry) → bytes_eq (line_of a) line ≡ b → (if b then Ok a else Err Form) ≡ Ok e → line_of e ≡ line
chosen b line a e same taken = grind (arith, bytes_eq-Decides)

answered : (line : List ℕ) (o : Option Entry) (e : Entry) → answer_for line o ≡ Ok e → line_of e ≡ line
answered line None e taken = absurd cc
answered line (Some a) e taken = chosen (bytes_eq (line_of a) line) line a e refl taken

answered_to : (line : List ℕ) (o : Option Data) (e : Entry) → answer_to line o ≡ Ok e → line_of e ≡ line
answered_to line o e taken = grind (arith, answered)

by_length : (b : Bool) (line : List ℕ) (e : Entry) → (if b then Err Long else answer_to line (said line)) ≡ Ok e → line_of e ≡ line
by_length b line e taken = grind (arith, answered_to)

pub read_line_written : (line : List ℕ) (e : Entry) → reading_of line ≡ Ok e → line_of e ≡ line
read_line_written line e taken = by_length (nat_lt longest_line (length line)) line e taken

pub line_of_one : (a b : Entry) → IsTrue (is_within a) → IsTrue (is_within b) → line_of a ≡ line_of b → a ≡ b
line_of_one a b h k same = ap (ok_or a) (sym (line_read a h) ∙ ap reading_of same ∙ line_read b k)

-- ---- texts

-- what is before the first LF, and what is after it
split_at_lf : (a b r s : List ℕ) → is_mild a ≡ true → is_mild b ≡ true → a ++ 10 ∷ r ≡ b ++ 10 ∷ s → (a ≡ b) × (r ≡ s)
split_at_lf [] [] r s h k same = let rest : r ≡ s = cc in (refl, rest)
split_at_lf [] (y ∷ b) r s h k same =
    let first : 10 ≡ y = cc in
    absurd (omega (arith, first, leb-true 32 y (and_parts (nat_le 32 y) _ k).0))
split_at_lf (x ∷ a) [] r s h k same =
    let first : x ≡ 10 = cc in
    absurd (omega (arith, first, leb-true 32 x (and_parts (nat_le 32 x) _ h).0))
split_at_lf (x ∷ a) (y ∷ b) r s h k same =
    let first : x ≡ y = cc in
    let later : a ++ 10 ∷ r ≡ b ++ 10 ∷ s = cc in
    let rest = split_at_lf a b r s (and_parts (nat_le 32 x) _ h).1 (and_parts (nat_le 32 y) _ k).1 later in
    (λ i. first i ∷ rest.0 i, rest.1)

no_text : (line rest : List ℕ) → [] ≡ line ++ 10 ∷ rest → ⊥
no_text line rest same = omega (arith, ap length same, length-append line (10 ∷ rest))

pub text_of_one : (a b : List Entry) → IsTrue (list_all is_within a) → IsTrue (list_all is_within b) → text_of a ≡ text_of b → a ≡ b
text_of_one [] [] h k same = refl
text_of_one [] (e ∷ b) h k same = absurd (no_text (line_of e) (text_of b) same)
text_of_one (e ∷ a) [] h k same = absurd (no_text (line_of e) (text_of a) (sym same))
text_of_one (e ∷ a) (f ∷ b) h k same =
    let first = and_parts (is_within e) _ h in
    let second = and_parts (is_within f) _ k in
    let split = split_at_lf (line_of e) (line_of f) (text_of a) (text_of b) (line_clean e first.0).mild (line_clean f second.0).mild same in
    let head = line_of_one e f first.0 second.0 split.0 in
    let tail = text_of_one a b first.1 second.1 split.1 in
    λ i. head i ∷ tail i
