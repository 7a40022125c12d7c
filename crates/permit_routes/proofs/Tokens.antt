-- A token is ASCII, so bytes that are no text are none.
use Rattle.std.proofs.Common.{◌≡◌, ℕ, ◌<◌, ◌||◌, List, [], ◌∷◌, Bool, true, false, drop, sym, refl, arith, None}
use Rattle.std.specs.List.{list_all}
use Rattle.std.specs.Str.{IsAscii, IsUtf8}
use Rattle.std.proofs.lemmas.Str.{IsUtf8-from_ascii}
use Rattle.std.proofs.lemmas.Str.Ascii.{IsAscii-nil, IsAscii-cons}
use Rattle.std.proofs.lemmas.Bool.{and_parts}
use Rattle.std.proofs.lemmas.Bool.Decides.{nat_tests}
use Rattle.permit_base.specs.Limits.{only_if}
use Rattle.permit_routes.specs.Bearer.{is_bearer, token_of}
use Rattle.permit_base.specs.Texts.{is_capital, is_small, is_digit, is_long, is_token}

is_letter : ℕ → Bool
is_letter c = (is_capital c || is_small c) || is_digit c

letter_low : (c : ℕ) → is_letter c ≡ true → c < 128
unfolding is_letter
letter_low c h = grind (arith, nat_tests)

letters_ascii : (bytes : List ℕ) → list_all is_letter bytes ≡ true → IsAscii bytes
letters_ascii [] h = IsAscii-nil
letters_ascii (b ∷ bytes) h =
    let parts = and_parts (is_letter b) (list_all is_letter bytes) h in
    IsAscii-cons b bytes (letter_low b parts.0) (letters_ascii bytes parts.1)

token_text : (bytes : List ℕ) → is_token bytes ≡ true → IsUtf8 bytes
unfolding is_letter
token_text bytes h = IsUtf8-from_ascii bytes (letters_ascii bytes (and_parts (is_long 16 64 bytes) (list_all is_letter bytes) h).1)

by_test : (bytes : List ℕ) (b : Bool) → is_token bytes ≡ b → (IsUtf8 bytes → ⊥) → only_if is_token bytes ≡ None
by_test bytes true e h = absurd (h (token_text bytes e))
by_test bytes false e h = rw e refl

-- bytes that are no text are no token
pub no_text_no_token : (bytes : List ℕ) → (IsUtf8 bytes → ⊥) → only_if is_token bytes ≡ None
no_text_no_token bytes h = by_test bytes _ refl h

behind : (value : List ℕ) (b : Bool) → is_bearer value ≡ b → only_if is_token (drop 7 value) ≡ None → token_of value ≡ None
behind value true e h = rw (e, h) refl
behind value false e h = rw e refl

-- a value whose bytes after the scheme are no text has no token
pub no_text_behind : (value secret : List ℕ) → secret ≡ drop 7 value → (IsUtf8 secret → ⊥) → None ≡ token_of value
no_text_behind value secret e h = sym (behind value _ refl (rw e at (no_text_no_token secret h)))
