-- Lots and digests are UTF-8.
use Rattle.std.proofs.Common.{◌≡◌, ℕ, zero, suc, ◌<◌, Bool, true, List, [], ◌∷◌, arith}
use Rattle.std.specs.Prelude.{IsTrue, IsUtf8}
use Rattle.std.specs.List.{list_all}
use Rattle.std.specs.Str.{IsAscii}
use Rattle.std.proofs.lemmas.Bool.{and_parts}
use Rattle.std.proofs.lemmas.Bool.Decides.{nat_tests}
use Rattle.std.proofs.lemmas.Str.{IsUtf8-from_ascii}
use Rattle.permit_base.specs.Texts.{is_lot, is_lot_letter, is_digest, is_hex_letter}

ascii_of : (p : ℕ → Bool) → ((c : ℕ) → p c ≡ true → c < 128) → (bytes : List ℕ) → list_all p bytes ≡ true → IsAscii bytes
ascii_of p low [] h = λ i. omega arith
ascii_of p low (b ∷ bytes) h = λ i. go i (ascii_of p low bytes (and_parts (p b) (list_all p bytes) h).1)
  where
    go : (i : ℕ) → IsAscii bytes → Rattle.std.specs.Prelude.slice_index (b ∷ bytes) i < 128
    go zero more = low b (and_parts (p b) (list_all p bytes) h).0
    go (suc i) more = more i

low_lot : (c : ℕ) → is_lot_letter c ≡ true → c < 128
low_lot c h = grind (arith, nat_tests)

low_hex : (c : ℕ) → is_hex_letter c ≡ true → c < 128
low_hex c h = grind (arith, nat_tests)

pub lot_utf8 : (t : List ℕ) → IsTrue (is_lot t) → IsUtf8 t
lot_utf8 t h = IsUtf8-from_ascii t (ascii_of is_lot_letter low_lot t (and_parts _ (list_all is_lot_letter t) h).1)

pub digest_utf8 : (t : List ℕ) → IsTrue (is_digest t) → IsUtf8 t
digest_utf8 t h = IsUtf8-from_ascii t (ascii_of is_hex_letter low_hex t (and_parts _ (list_all is_hex_letter t) h).1)
