-- What the id of a path is parsed as.
use Rattle.std.proofs.Common.{nat_le, ◌≡◌, ℕ, ◌≤◌, ◌&&◌, not, List, length, Bool, true, false, cond, refl, arith, rules, Result, Ok, Err, Some, None}
use Rattle.std.specs.List.{list_all}
use Rattle.std.specs.Char.{is_ascii_digit}
use Rattle.std.specs.Str.Parse.{digits_value, ParsesUnsigned}
use Rattle.std.proofs.lemmas.Str.Parse.{IsNumeralModel, numerals_by_value, parse_gives}
use Rattle.std.proofs.lemmas.Bool.{and_parts, leb-true}
use Rattle.permit_base.specs.Limits.{most_records, only_if, is_object_number}
use Rattle.permit_routes.specs.Ids.{is_plain_number, starts_with_zero, id_in}

pub own : IsNumeralModel (λ ds. list_all is_ascii_digit ds ≡ true) (digits_value 10)
own = numerals_by_value _ (search rules)

-- digits within the limit are read
plain_reads : {E : Type 0} → (bs : List ℕ) (r : Result ℕ E) → is_plain_number bs ≡ true → ParsesUnsigned 32 10 bs r
    → digits_value 10 bs ≤ most_records → r ≡ Ok (digits_value 10 bs)
plain_reads bs r h p small =
    let outer = and_parts (nat_le 1 (length bs) && list_all is_ascii_digit bs) (not (starts_with_zero bs)) h in
    let inner = and_parts (nat_le 1 (length bs)) (list_all is_ascii_digit bs) outer.0 in
    parse_gives own 32 bs r p inner.1 (leb-true 1 (length bs) inner.0) (omega arith)

not_kept : {A : Type 0} (x : A) (a b : Bool) → b ≡ false → cond (a && b) (Some x) None ≡ None
not_kept x true b e = rw e refl
not_kept x false b e = refl

refused_by : {E : Type 0} → (bs : List ℕ) (r : Result ℕ E) (e : E) (b : Bool) → is_plain_number bs ≡ true → ParsesUnsigned 32 10 bs r → r ≡ Err e
    → nat_le (digits_value 10 bs) most_records ≡ b → only_if is_object_number (digits_value 10 bs) ≡ None
refused_by bs r e true h p is t = absurd (let q = plain_reads bs r h p (leb-true (digits_value 10 bs) most_records t) in cc)
refused_by bs r e false h p is t = not_kept (digits_value 10 bs) (nat_le 1 (digits_value 10 bs)) (nat_le (digits_value 10 bs) most_records) t

-- digits that are not read are no id
pub unread : {E : Type 0} → (bs : List ℕ) (r : Result ℕ E) (e : E) → is_plain_number bs ≡ true → ParsesUnsigned 32 10 bs r → r ≡ Err e → None ≡ id_in bs
unread bs r e h p is = let q = refused_by bs r e _ h p is refl in rw (h, q) refl
