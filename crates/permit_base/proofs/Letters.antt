-- Digests and rules' names are ASCII, and a name with zeros after it is padded.
use Rattle.std.proofs.Common.{◌≡◌, ℕ, ◌+◌, ◌-◌, ◌<◌, ◌≤◌, Bool, true, List, [], ◌∷◌, ◌++◌, length, take, drop, sym, ap, ◌∙◌, arith}
use Rattle.std.specs.Prelude.{IsTrue, replicate}
use Rattle.std.specs.List.{list_all}
use Rattle.std.specs.Str.{IsAscii, IsUtf8}
use Rattle.std.proofs.lemmas.Bool.{and_parts, leb-true}
use Rattle.std.proofs.lemmas.Bool.Decides.{nat_tests}
use Rattle.std.proofs.lemmas.Str.{IsUtf8-from_ascii}
use Rattle.std.proofs.lemmas.Str.Ascii.{IsAscii-nil, IsAscii-cons}
use Rattle.std.proofs.lemmas.List.{take-replicate, drop-replicate}
use Rattle.std.proofs.Math.Seq.{take-append_seam, take-append-add}
use Rattle.permit_base.specs.Texts.{is_hex_letter, is_digest, is_name_letter, is_rule_name, padded, IsPadded}

-- letters that pass a test of ASCII are a text
IsAscii-passing : (test : ℕ → Bool) → ((c : ℕ) → test c ≡ true → c < 128) → (letters : List ℕ) → list_all test letters ≡ true → IsAscii letters
IsAscii-passing test small [] pass = IsAscii-nil
IsAscii-passing test small (c ∷ rest) pass =
    let parts = and_parts (test c) (list_all test rest) pass in
    IsAscii-cons c rest (small c parts.0) (IsAscii-passing test small rest parts.1)

is_hex_letter-small : (c : ℕ) → is_hex_letter c ≡ true → c < 128
is_hex_letter-small c h = grind (arith, nat_tests)

is_name_letter-small : (c : ℕ) → is_name_letter c ≡ true → c < 128
is_name_letter-small c h = grind (arith, nat_tests)

pub IsUtf8-digest : (letters : List ℕ) → IsTrue (is_digest letters) → IsUtf8 letters
IsUtf8-digest letters h =
    IsUtf8-from_ascii letters (IsAscii-passing is_hex_letter is_hex_letter-small letters (and_parts _ _ h).1)

pub IsUtf8-rule_name : (letters : List ℕ) → IsTrue (is_rule_name letters) → IsUtf8 letters
IsUtf8-rule_name letters h =
    IsUtf8-from_ascii letters (IsAscii-passing is_name_letter is_name_letter-small letters (and_parts _ _ h).1)

-- a name of at most 32 letters leaves the zeros after it
padded-name : (name : List ℕ) → length name ≤ 32 → padded name ≡ name ++ drop (length name) (replicate 32 0)
padded-name name short =
    let split : length name + (32 - length name) ≡ 32 = omega arith in
    ap (λ n. take n (name ++ replicate 32 0)) (sym split)
    ∙ take-append-add name (replicate 32 0) (32 - length name)
    ∙ ap (λ zeros. name ++ zeros) (take-replicate (32 - length name) 32 0 (omega arith) ∙ sym (drop-replicate (length name) 32 0))

pub IsPadded-name : (name : List ℕ) → IsTrue (is_rule_name name) → IsPadded (name ++ drop (length name) (replicate 32 0)) (length name)
IsPadded-name name h =
    let seam = take-append_seam name (drop (length name) (replicate 32 0)) in
    let short : length name ≤ 32 = leb-true (length name) 32 (and_parts _ _ (and_parts _ _ h).0).1 in
    record {
      letters = ap padded seam ∙ padded-name name short;
      count = ap length seam;
      name = rw seam h;
    }
