-- What a line consists of: UTF-8 without a byte below 32, and not too long.
use Rattle.std.proofs.Common.{◌≡◌, refl, ◌∙◌, ℕ, zero, suc, ◌+◌, ◌*◌, ◌^◌, ◌<◌, ◌≤◌, ◌&&◌, nat_le, Bool, true, false, List}
use Rattle.std.proofs.Common.{[], ◌∷◌, ◌++◌, length, get_or, decimal, arith, length-append, lit<, lit≤, le-leb, IsUtf8}
use Rattle.std.specs.Prelude.{⊤, IsTrue}
use Rattle.std.specs.List.{list_all}
use Rattle.std.proofs.lemmas.Bool.{and_parts, and_from, cases_eq, leb-true}
use Rattle.std.proofs.lemmas.List.Folds.{list_all-append}
use Rattle.std.proofs.lemmas.Fmt.{IsAscii-decimal, decimal_is_IsNumeral, length-decimal-le}
use Rattle.std.proofs.lemmas.Str.{IsUtf8-append, IsUtf8-nil, IsUtf8-from_ascii}
use Rattle.std.proofs.lemmas.Str.Parse.{digit_at}
use Rattle.json.specs.Print.{escape_byte, escape, quoted}
use Rattle.json.proofs.Printed.Strings.{escape_byte_plain}
use Rattle.json.proofs.Printed.Utf8.{are_ascii, IsUtf8-are_ascii, IsUtf8-quoted}
use Rattle.serde_json.specs.Data.{Data, null, boolean, number, unsigned, negative, float, string, array, object, Members, no_members, member}
use Rattle.serde_json.specs.Written.{compact_text, comma_if, members_text}
use Rattle.permit_history.proofs.RoundTrip.{IsPlain, ArePlain, join}

-- no control character below 32
abbrev pub is_mild : List ℕ → Bool
is_mild = list_all (nat_le 32)

-- UTF-8 without a byte below 32
pub record IsClean (text : List ℕ) : Type 0 where
  pub mild : is_mild text ≡ true
  pub utf8 : IsUtf8 text

-- clean, and of at most 2000 bytes
pub record IsFine (text : List ℕ) : Type 0 where
  pub clean : IsClean text
  pub short : length text ≤ 2000

-- ASCII without a byte below 32, and of at most 2000 bytes
abbrev pub is_word : List ℕ → Bool
is_word text = is_mild text && (are_ascii text && nat_le (length text) 2000)

abbrev mutual
  -- each text in the value is fine, and each key a word
  pub AllFine : Data → Type 0
  AllFine null = ⊤
  AllFine (boolean b) = ⊤
  AllFine (number n) = ⊤
  AllFine (string s) = IsFine s
  AllFine (array ds) = ⊥
  AllFine (object ms) = MembersFine ms

  pub MembersFine : Members → Type 0
  MembersFine no_members = ⊤
  MembersFine (member k d ms) = IsTrue (is_word k) × AllFine d × MembersFine ms

pub word_fine : (text : List ℕ) → IsTrue (is_word text) → IsFine text
word_fine text h = grind (arith, and_parts, are_ascii, IsUtf8-are_ascii, leb-true)

-- ---- what is joined is clean

clean-append : (a b : List ℕ) → IsClean a → IsClean b → IsClean (a ++ b)
clean-append a b h k = grind (arith, list_all-append, and_from, IsUtf8-append)

clean_nothing : IsClean []
clean_nothing = record { mild = refl; utf8 = IsUtf8-nil }

clean_ascii : (text : List ℕ) → is_mild text ≡ true → are_ascii text ≡ true → IsClean text
clean_ascii text h k = record { mild = h; utf8 = IsUtf8-are_ascii text k }

-- ---- an escaped text

record EscapesWell (x : ℕ) : Type 0 where
  mild : is_mild (escape_byte x) ≡ true
  short : length (escape_byte x) ≤ 2

escapes_quote : EscapesWell 34
unfolding escape_byte
escapes_quote = record { mild = refl; short = lit≤ tt }

escapes_backslash : EscapesWell 92
unfolding escape_byte
escapes_backslash = record { mild = refl; short = lit≤ tt }

escapes_well : (x : ℕ) → 32 ≤ x → EscapesWell x
escapes_well x high = grind (arith, cases_eq, escapes_quote, escapes_backslash, escape_byte_plain, le-leb)

escape_mild : (s : List ℕ) → is_mild s ≡ true → is_mild (escape s) ≡ true
escape_mild [] h = refl
escape_mild (x ∷ s) h =
    let parts = and_parts (nat_le 32 x) _ h in
    let first = escapes_well x (leb-true 32 x parts.0) in
    list_all-append (nat_le 32) (escape_byte x) (escape s) ∙ and_from _ _ first.mild (escape_mild s parts.1)

escape_short : (s : List ℕ) → is_mild s ≡ true → length (escape s) ≤ 2 * length s
escape_short [] h = omega arith
escape_short (x ∷ s) h =
    let parts = and_parts (nat_le 32 x) _ h in
    let first = escapes_well x (leb-true 32 x parts.0) in
    omega (arith, length-append (escape_byte x) (escape s), first.short, escape_short s parts.1)

quoted_clean : (s : List ℕ) → IsClean s → IsClean (quoted s)
quoted_clean s h = grind (arith, list_all-append, and_from, escape_mild, IsUtf8-quoted)

pub quoted_short : (s : List ℕ) → IsFine s → length (quoted s) ≤ 4002
quoted_short s h = omega (arith, length-append (escape s) (34 ∷ []), escape_short s h.clean.mild, h.short)

-- ---- a number

digits_mild : (ds : List ℕ) → ((i : ℕ) → i < length ds → 48 ≤ get_or ds i 0) → is_mild ds ≡ true
digits_mild [] h = refl
digits_mild (d ∷ ds) h =
    let high : 48 ≤ d = h 0 (omega arith) in
    and_from _ _ (le-leb 32 d (omega arith)) (digits_mild ds (λ i lt. h (suc i) (omega arith)))

decimal_clean : (n : ℕ) → n < 2 ^ 64 → IsClean (decimal n)
decimal_clean n h = grind (arith, digits_mild, digit_at, decimal_is_IsNumeral, IsUtf8-from_ascii, IsAscii-decimal)

decimal_short : (n : ℕ) → n < 2 ^ 64 → length (decimal n) ≤ 20
decimal_short n h = length-decimal-le 20 n (lit< tt) (omega arith) h

-- ---- a value

comma_clean : (later : Bool) → IsClean (comma_if later)
comma_clean true = clean_ascii _ refl refl
comma_clean false = clean_nothing

mutual
  pub value_clean : (depth : ℕ) (d : Data) → IsPlain depth d → AllFine d → IsClean (compact_text d)
  value_clean depth null h k = clean_ascii _ refl refl
  value_clean depth (boolean b) h k = absurd h
  value_clean depth (number (unsigned n)) h k = decimal_clean n h
  value_clean depth (number (negative z)) h k = absurd h
  value_clean depth (number (float x)) h k = absurd h
  value_clean depth (string s) h k = quoted_clean s k.clean
  value_clean depth (array ds) h k = absurd h
  value_clean zero (object ms) h k = absurd h
  value_clean (suc depth) (object ms) h k =
      clean-append (123 ∷ []) (members_text false ms) (clean_ascii _ refl refl) (members_clean depth no_members false ms h k)

  members_clean : (depth : ℕ) (found : Members) (later : Bool) (ms : Members) → ArePlain depth found ms → MembersFine ms → IsClean (members_text later ms)
  members_clean depth found later no_members h k = clean_ascii _ refl refl
  members_clean depth found later (member name d ms) h k =
      clean-append (comma_if later) _ (comma_clean later)
      (clean-append (quoted name) _ (quoted_clean name (word_fine name k.0).clean)
      (clean-append (58 ∷ []) _ (clean_ascii _ refl refl)
      (clean-append (compact_text d) (members_text true ms) (value_clean depth d h.1 k.1)
      (members_clean depth (join found (member name d no_members)) true ms h.2 k.2))))

-- ---- its length

abbrev mutual
  -- no fewer bytes than its text has, where each text in it is fine
  pub room : Data → ℕ
  room null = 4
  room (boolean b) = 5
  room (number n) = 20
  room (string s) = 4002
  room (array ds) = 0
  room (object ms) = 1 + members_room ms

  pub members_room : Members → ℕ
  members_room no_members = 1
  members_room (member k d ms) = 1 + length (quoted k) + 1 + room d + members_room ms

comma_short : (later : Bool) → length (comma_if later) ≤ 1
comma_short later = grind arith

mutual
  pub value_short : (depth : ℕ) (d : Data) → IsPlain depth d → AllFine d → length (compact_text d) ≤ room d
  value_short depth null h k = lit≤ tt
  value_short depth (boolean b) h k = absurd h
  value_short depth (number (unsigned n)) h k = decimal_short n h
  value_short depth (number (negative z)) h k = absurd h
  value_short depth (number (float x)) h k = absurd h
  value_short depth (string s) h k = quoted_short s k
  value_short depth (array ds) h k = absurd h
  value_short zero (object ms) h k = absurd h
  value_short (suc depth) (object ms) h k = omega (arith, members_short depth no_members false ms h k)

  members_short : (depth : ℕ) (found : Members) (later : Bool) (ms : Members) → ArePlain depth found ms → MembersFine ms
      → length (members_text later ms) ≤ members_room ms
  members_short depth found later no_members h k = lit≤ tt
  members_short depth found later (member name d ms) h k =
      let value = compact_text d in
      let rest = members_text true ms in
      omega (
        arith,
        length-append (comma_if later) (quoted name ++ 58 ∷ (value ++ rest)),
        length-append (quoted name) (58 ∷ (value ++ rest)),
        length-append value rest,
        comma_short later,
        value_short depth d h.1 k.1,
        members_short depth (join found (member name d no_members)) true ms h.2 k.2,
      )
