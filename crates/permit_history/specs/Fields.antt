-- What is in a JSON value, member by member.
use Rattle.std.specs.Prelude.{ℕ, List, Bool, if◌then◌else◌, Option, Some, None, option_and_then, option_map, is_some}
use Rattle.std.specs.Str.{is_utf8}
use Rattle.serde_json.specs.Data.{Data}
use Rattle.serde_json.specs.Read.{read}
use Rattle.serde_json.specs.Find.{get, as_null, as_number, as_u64, as_str}
use Rattle.permit_base.specs.Limits.{only_if}
use Rattle.permit_base.specs.Words.{named}

infixl 10 ◌>>=◌
abbrev pub ◌>>=◌ : {A B : Type 0} → Option A → (A → Option B) → Option B
o >>= f = option_and_then f o

-- the value that the bytes say
abbrev pub said : List ℕ → Option Data
said bytes = only_if is_utf8 bytes >>= read

-- the unsigned whole number at the key, within the limits
abbrev pub number_at : (ℕ → Bool) → List ℕ → Data → Option ℕ
number_at limits key d = get key d >>= as_number >>= as_u64 >>= only_if limits

-- null is at the key
abbrev pub is_null_at : List ℕ → Data → Bool
is_null_at key d = is_some (get key d >>= as_null)

-- the number at the key, within the limits, or None where null is there
abbrev pub number_or_null_at : (ℕ → Bool) → List ℕ → Data → Option (Option ℕ)
number_or_null_at limits key d = if is_null_at key d then Some None else option_map Some (number_at limits key d)

-- the string at the key
abbrev pub string_at : List ℕ → Data → Option (List ℕ)
string_at key d = get key d >>= as_str

-- the text at the key, within the limits
abbrev pub text_at : (List ℕ → Bool) → List ℕ → Data → Option (List ℕ)
text_at limits key d = string_at key d >>= only_if limits

-- a word at the key, by its spelling
abbrev pub word_at : {A : Type 0} → (A → List ℕ) → List A → List ℕ → Data → Option A
word_at spelling words key d = string_at key d >>= named spelling words
