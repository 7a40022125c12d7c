-- What is written in hexadecimal of 32 bytes is a digest.
use Rattle.std.proofs.Common.{◌≡◌, ℕ, suc, ◌/◌, ◌%◌, ◌<◌, true, List, [], ◌∷◌, length, slice_index, refl, arith}
use Rattle.std.specs.Prelude.{IsTrue}
use Rattle.std.specs.List.{list_all}
use Rattle.std.proofs.lemmas.Bool.{and_from, eq-eqb}
use Rattle.std.proofs.lemmas.List.Sums.{AllPass-from_list_all}
use Rattle.hex.specs.Hex.{IsBytes, encode_lower, encode_with, lower_digits}
use Rattle.hex.proofs.HexLemmas.{length-encode_with}
use Rattle.permit_base.specs.Texts.{is_hex_letter, is_digest}

-- each of the sixteen digits passes
a_digit : (d : ℕ) → d < 16 → is_hex_letter (slice_index lower_digits d) ≡ true
a_digit d lt = AllPass-from_list_all is_hex_letter lower_digits refl d 0 lt

all_digits : (bytes : List ℕ) → IsBytes bytes → list_all is_hex_letter (encode_with lower_digits bytes) ≡ true
unfolding encode_with
all_digits [] small = refl
all_digits (b ∷ rest) small =
    let byte : b < 256 = small 0 in
    and_from _ _ (a_digit (b / 16) (omega arith)) (and_from _ _ (a_digit (b % 16) (omega arith)) (all_digits rest (λ i. small (suc i))))

pub is_digest-encoded : (bytes : List ℕ) → length bytes ≡ 32 → IsBytes bytes → IsTrue (is_digest (encode_lower bytes))
is_digest-encoded bytes long small =
    let encoded = length-encode_with lower_digits bytes in
    and_from _ _ (eq-eqb _ 64 (omega (arith, encoded, long))) (all_digits bytes small)
