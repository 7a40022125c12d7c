-- Each number within the limit has one spelling, and no other word is an id.
use Rattle.std.proofs.Common.{nat_le, ◌≡◌, ◌≢◌, ℕ, ◌<◌, ◌≤◌, ◌^◌, ◌&&◌, not, List, [], ◌∷◌, length, get_or, Bool, true, false, refl, sym, ap, ◌∙◌}
use Rattle.std.proofs.Common.{arith, Some, None}
use Rattle.std.specs.Fmt.{decimal}
use Rattle.std.specs.List.{list_all}
use Rattle.std.specs.Char.{is_ascii_digit}
use Rattle.std.specs.Str.Parse.{digits_value}
use Rattle.std.proofs.lemmas.Fmt.{decimal_nonempty, first_decimal, digits_decimal, digits_value-decimal, decimal-digits_value}
use Rattle.std.proofs.lemmas.Bool.{and_parts, leb-true, le-leb}
use Rattle.std.proofs.lemmas.Bool.Decides.{nat_tests}
use Rattle.permit_base.specs.Limits.{most_records, only_if, is_object_number}
use Rattle.permit_routes.specs.Ids.{is_plain_number, starts_with_zero, id_in}
use Rattle.permit_routes.proofs.Numbers.{own}

first_no_zero : (word : List ℕ) → not (starts_with_zero word) ≡ true → get_or word 0 0 ≢ 48
first_no_zero [] h e = absurd (omega arith)
first_no_zero (c ∷ rest) h e = grind (arith, nat_tests)

zero_not_first : (word : List ℕ) → 48 < get_or word 0 0 → not (starts_with_zero word) ≡ true
zero_not_first [] h = absurd (omega arith)
zero_not_first (c ∷ rest) h = grind (arith, nat_tests)

below : (n : ℕ) → is_object_number n ≡ true → (1 ≤ n) × (n ≤ most_records)
below n h = let parts = and_parts (nat_le 1 n) (nat_le n most_records) h in (leb-true 1 n parts.0, leb-true n most_records parts.1)

plain_spelled : (word : List ℕ) → is_plain_number word ≡ true → digits_value 10 word ≤ most_records → decimal (digits_value 10 word) ≡ word
plain_spelled word h small =
    let outer = and_parts (nat_le 1 (length word) && list_all is_ascii_digit word) (not (starts_with_zero word)) h in
    let inner = and_parts (nat_le 1 (length word)) (list_all is_ascii_digit word) outer.0 in
    decimal-digits_value own word inner.1 (leb-true 1 (length word) inner.0) (λ e. absurd (first_no_zero word outer.1 e)) (omega arith)

kept : (n m : ℕ) (b : Bool) → is_object_number n ≡ b → only_if is_object_number n ≡ Some m → (is_object_number n ≡ true) × (n ≡ m)
kept n m true h e = (h, let f : Some n ≡ Some m = rw h at e in cc)
kept n m false h e = let f : None ≡ Some m = rw h at e in cc

spelled_by : (word : List ℕ) (n : ℕ) (b : Bool) → is_plain_number word ≡ b → id_in word ≡ Some n → (is_object_number n ≡ true) × (decimal n ≡ word)
spelled_by word n true h e =
    let f : only_if is_object_number (digits_value 10 word) ≡ Some n = rw h at e in
    let k = kept (digits_value 10 word) n _ refl f in
    let small = (below (digits_value 10 word) k.0).1 in
    (ap is_object_number (sym k.1) ∙ k.0, ap decimal (sym k.1) ∙ plain_spelled word h small)
spelled_by word n false h e = let f : None ≡ Some n = rw h at e in cc

-- an id is the decimal spelling of its number
pub id_spelled : (word : List ℕ) (n : ℕ) → id_in word ≡ Some n → (is_object_number n ≡ true) × (decimal n ≡ word)
id_spelled word n e = spelled_by word n _ refl e

plain_decimal : (n : ℕ) → 1 ≤ n → n ≤ most_records → is_plain_number (decimal n) ≡ true
plain_decimal n low high =
    let size : n < 2 ^ 64 = omega arith in
    let first = zero_not_first (decimal n) (first_decimal n low size) in
    let long = le-leb 1 (length (decimal n)) (decimal_nonempty n size) in
    let all : list_all is_ascii_digit (decimal n) ≡ true = digits_decimal own n size in
    rw (long, all, first) refl

-- the decimal spelling of a number within the limit is an id
pub id_read : (n : ℕ) → is_object_number n ≡ true → id_in (decimal n) ≡ Some n
id_read n h =
    let b = below n h in
    let size : n < 2 ^ 64 = omega arith in
    let plain = plain_decimal n b.0 b.1 in
    let value : digits_value 10 (decimal n) ≡ n = digits_value-decimal own n size in
    rw (plain, value, h) refl
