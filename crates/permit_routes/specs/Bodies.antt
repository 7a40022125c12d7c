-- What a request's body says: an object with exactly the keys of its request.
use Rattle.std.specs.Prelude.{ℕ, ◌==◌, List, length, Bool, false, if◌then◌else◌, Option, Some, option_and_then, option_map, codes, unwrap_or}
use Rattle.std.specs.Str.Lossy.{utf8_valid_len}
use Rattle.serde_json.specs.Data.{Data}
use Rattle.serde_json.specs.Read.{read}
use Rattle.serde_json.specs.Events.{members_len}
use Rattle.serde_json.specs.Find.{get, as_number, as_u64, as_str, as_object}
use Rattle.permit_base.specs.Limits.{only_if}
use Rattle.permit_base.specs.Words.{named}

infixl 10 ◌>>=◌
abbrev pub ◌>>=◌ : {A B : Type 0} → Option A → (A → Option B) → Option B
o >>= f = option_and_then f o

-- the bytes are UTF-8
abbrev pub is_utf8 : List ℕ → Bool
is_utf8 bytes = utf8_valid_len bytes == length bytes

-- the text of a body; an empty one counts as {}
abbrev pub text_in : List ℕ → Option (List ℕ)
text_in body = if length body == 0 then Some (codes "{}") else only_if is_utf8 body

-- the value that the bytes say
abbrev pub said : List ℕ → Option Data
said body = text_in body >>= read

-- an object of that many members; each key is in it once
abbrev pub has_members : ℕ → Data → Bool
has_members n d = unwrap_or (option_map (λ ms. members_len ms == n) (as_object d)) false

-- what a body says, where it is an object of so many members
abbrev pub object_of : ℕ → List ℕ → Option Data
object_of n body = said body >>= only_if (has_members n)

-- the unsigned whole number at the key, within the limits
abbrev pub number_at : (ℕ → Bool) → List ℕ → Data → Option ℕ
number_at limits key d = get key d >>= as_number >>= as_u64 >>= only_if limits

-- the string at the key
abbrev pub string_at : List ℕ → Data → Option (List ℕ)
string_at key d = get key d >>= as_str

-- the text at the key, within the limits
abbrev pub text_at : (List ℕ → Bool) → List ℕ → Data → Option (List ℕ)
text_at limits key d = string_at key d >>= only_if limits

-- a word at the key, by its spelling
abbrev pub word_at : {A : Type 0} → (A → List ℕ) → List A → List ℕ → Data → Option A
word_at spelling words key d = string_at key d >>= named spelling words
