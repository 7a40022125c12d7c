-- A digest is 64 lower-case hexadecimal letters.
use Rattle.std.proofs.Common.{◌≡◌, ℕ, zero, suc, ◌/◌, ◌%◌, ◌^◌, ◌<◌, ◌≤◌, Bool, true, List, [], ◌∷◌, length, slice_index, refl, ◌∙◌, arith}
use Rattle.std.specs.Prelude.{nat_le, IsTrue}
use Rattle.std.specs.Int.{to_be_bytes, w32}
use Rattle.std.specs.List.{list_all}
use Rattle.std.proofs.lemmas.Bool.{and_parts, and_from, leb-true, le-leb, eq-eqb}
use Rattle.std.proofs.lemmas.List.Folds.{list_all-append}
use Rattle.std.proofs.lemmas.List.Sums.{AllPass-from_list_all}
use Rattle.hex.specs.Hex.{encode_with, lower_digits}
use Rattle.hex.proofs.HexLemmas.{length-encode_with}
use Rattle.sha2.specs.Sha256.{digest_bytes, sha256}
use Rattle.sha2.proofs.Facts256.{length-sha256}
use Rattle.permit_base.specs.Digests.{digest_of}
use Rattle.permit_base.specs.Texts.{is_hex_letter, is_digest}

-- whether a number is a byte
abbrev is_byte : ℕ → Bool
is_byte b = nat_le b 255

is_byte-remainder : (n : ℕ) → is_byte (n % 256) ≡ true
is_byte-remainder n = le-leb (n % 256) 255 (omega arith)

-- a word is written as bytes
word_bytes : (n : ℕ) → list_all is_byte (to_be_bytes w32 n) ≡ true
word_bytes n =
    and_from _ _ (is_byte-remainder (n / 256 ^ 3))
    (and_from _ _ (is_byte-remainder (n / 256 ^ 2)) (and_from _ _ (is_byte-remainder (n / 256 ^ 1)) (and_from _ _ (is_byte-remainder n) refl)))

-- a digest is bytes
digest_bytes-bytes : (words : List ℕ) (n : ℕ) → list_all is_byte (digest_bytes words n) ≡ true
unfolding digest_bytes
digest_bytes-bytes words zero = refl
digest_bytes-bytes words (suc n) =
    list_all-append is_byte (digest_bytes words n) (to_be_bytes w32 (slice_index words n))
    ∙ and_from _ _ (digest_bytes-bytes words n) (word_bytes (slice_index words n))

sha256-bytes : (message : List ℕ) → list_all is_byte (sha256 message) ≡ true
unfolding sha256
sha256-bytes message = digest_bytes-bytes _ 8

-- what each of the sixteen digits passes, each letter of a text passes
encoded-all : (test : ℕ → Bool) (digits : List ℕ) → ((d : ℕ) → d < 16 → test (slice_index digits d) ≡ true)
    → (bytes : List ℕ) → list_all is_byte bytes ≡ true → list_all test (encode_with digits bytes) ≡ true
unfolding encode_with
encoded-all test digits passes [] small = refl
encoded-all test digits passes (b ∷ rest) small =
    let parts = and_parts (is_byte b) (list_all is_byte rest) small in
    let byte : b ≤ 255 = leb-true b 255 parts.0 in
    and_from _ _ (passes (b / 16) (omega arith))
    (and_from _ _ (passes (b % 16) (omega arith)) (encoded-all test digits passes rest parts.1))

pub length-digest_of : (message : List ℕ) → length (digest_of message) ≡ 64
length-digest_of message =
    let encoded = length-encode_with lower_digits (sha256 message) in
    let bytes = length-sha256 message in
    omega (arith, encoded, bytes)

-- the digest of any message is one
pub is_digest-digest_of : (message : List ℕ) → IsTrue (is_digest (digest_of message))
is_digest-digest_of message =
    and_from _ _ (eq-eqb _ 64 (length-digest_of message))
    (encoded-all is_hex_letter lower_digits
    (λ d lt. AllPass-from_list_all is_hex_letter lower_digits refl d 0 lt)
    (sha256 message) (sha256-bytes message))
