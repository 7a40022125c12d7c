-- What a length of 1 to 9 digits is read as.
use Rattle.std.proofs.Common.{nat_le, ◌≡◌, ℕ, ◌+◌, ◌-◌, ◌<◌, ◌≤◌, ◌&&◌, List, [], ◌∷◌, ◌++◌, length, take, drop, true, cond, sym, ap, ◌∙◌, arith}
use Rattle.std.proofs.Common.{rules, Result, Ok, Some, None}
use Rattle.std.specs.List.{list_all}
use Rattle.std.specs.Char.{is_ascii_digit}
use Rattle.std.specs.Str.{IsAscii, IsUtf8}
use Rattle.std.specs.Str.Parse.{digits_value, ParsesUnsigned}
use Rattle.std.proofs.lemmas.Str.Parse.{IsNumeralModel, numerals_by_value, parse_gives, digits_value_short}
use Rattle.std.proofs.lemmas.Str.Ascii.{IsAscii-nil, IsAscii-cons}
use Rattle.std.proofs.lemmas.Str.{IsUtf8-from_ascii}
use Rattle.std.proofs.lemmas.Bool.{and_parts, leb-true}
use Rattle.std.proofs.lemmas.List.{take-append-le, drop-take, length-drop}
use Rattle.std.proofs.lemmas.Bool.Decides.{nat_tests}
use Rattle.permit_http.specs.Head.{is_length, length_in}

pub AreDigits : List ℕ → Type 0
AreDigits ds = list_all is_ascii_digit ds ≡ true

own : IsNumeralModel (λ ds. list_all is_ascii_digit ds ≡ true) (digits_value 10)
own = numerals_by_value _ (search rules)

digit_ascii : (b : ℕ) → is_ascii_digit b ≡ true → b < 128
digit_ascii b h = grind (arith, nat_tests)

pub digits_ascii : (bs : List ℕ) → list_all is_ascii_digit bs ≡ true → IsAscii bs
digits_ascii [] h = IsAscii-nil
digits_ascii (b ∷ bs) h =
    let parts = and_parts (is_ascii_digit b) (list_all is_ascii_digit bs) h in
    IsAscii-cons b bs (digit_ascii b parts.0) (digits_ascii bs parts.1)

pub length_reads : {E : Type 0} → (bs : List ℕ) (r : Result ℕ E) → is_length bs ≡ true → ParsesUnsigned 32 10 bs r → r ≡ Ok (digits_value 10 bs)
length_reads bs r h p =
    let outer = and_parts (nat_le 1 (length bs) && nat_le (length bs) 9) (list_all is_ascii_digit bs) h in
    let inner = and_parts (nat_le 1 (length bs)) (nat_le (length bs) 9) outer.0 in
    let low = leb-true 1 (length bs) inner.0 in
    let high = leb-true (length bs) 9 inner.1 in
    parse_gives own 32 bs r p outer.1 (omega (arith, low)) (omega (arith, digits_value_short own bs 9 outer.1 high))

pub length_digits : (bs : List ℕ) → is_length bs ≡ true → IsUtf8 bs
length_digits bs h = IsUtf8-from_ascii bs (digits_ascii bs (and_parts (nat_le 1 (length bs) && nat_le (length bs) 9) (list_all is_ascii_digit bs) h).1)

pub length_yes : (bs : List ℕ) → is_length bs ≡ true → Some (digits_value 10 bs) ≡ length_in bs
length_yes bs h = sym (ap (λ b. cond b (Some (digits_value 10 bs)) None) h)

-- the bytes after the first n of the len that are kept
pub consumed : (bytes : List ℕ) (len n : ℕ) → len ≤ length bytes → n ≤ len → take (len - n) (drop n bytes ++ take n bytes) ≡ drop n (take len bytes)
consumed bytes len n h k =
    let size : n + (len - n) ≡ len = omega arith in
    take-append-le (len - n) (drop n bytes) (take n bytes) (omega (arith, length-drop n bytes))
    ∙ sym (drop-take n (len - n) bytes) ∙ ap (λ x. drop n (take x bytes)) size
