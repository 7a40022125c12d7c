-- The head of a request within the limits, by the grammar of `httparse`, and what its fields say (RFC 9112).
use Rattle.std.specs.Prelude.{ℕ, ◌<◌, ◌≤◌, ◌==◌, ◌&&◌, nat_le, List, [], ◌∷◌, ◌++◌, length, map, filter, Bool, if◌then◌else◌, Option, Some, None}
use Rattle.std.specs.Prelude.{codes, Result, Ok, Err}
use Rattle.std.specs.List.{list_all, list_any}
use Rattle.std.specs.Char.{is_ascii_digit}
use Rattle.std.specs.Str.{str_eq_ignore_ascii_case}
use Rattle.std.specs.Str.Parse.{digits_value}
use Rattle.httparse.specs.Grammar.{RequestHead, ReadsRequest, print_request}
use Rattle.httparse.specs.Spans.{name_and_value}
use Rattle.permit_http.specs.declared.fault.Fault.{Fault}
use Rattle.permit_http.specs.declared.fault.Fault.TheVariants.{Head, Version, Length, Large}

-- the bytes of a head, its empty line among them, are at most this many
abbrev pub head_limit : ℕ
head_limit = 8192

-- the fields of a head are at most this many
abbrev pub field_limit : ℕ
field_limit = 32

-- the bytes of a body are at most this many
abbrev pub body_limit : ℕ
body_limit = 16384

-- a head within the limits is at the front of the bytes
pub record HeadAt (bytes : List ℕ) (h : RequestHead) (rest : List ℕ) : Type 0 where
  pub reads : ReadsRequest bytes h rest
  pub short : length (print_request h) ≤ head_limit
  pub few : length h.fields ≤ field_limit

-- no head within the limits is there
abbrev pub LacksHead : List ℕ → Type 0
LacksHead bytes = (h : RequestHead) (rest : List ℕ) → HeadAt bytes h rest → ⊥

-- no head is there, and fewer bytes than one may have
abbrev pub IsOpen : List ℕ → Type 0
IsOpen bytes = LacksHead bytes × (length bytes < head_limit)

-- no head within the limits can be there, whatever bytes follow
abbrev pub NeverHasHead : List ℕ → Type 0
NeverHasHead bytes = (more : List ℕ) → LacksHead (bytes ++ more)

-- a field by its name and its value, which has no white space round it
abbrev pub Pair : Type 0
Pair = List ℕ × List ℕ

-- the fields of a head
abbrev pub pairs_of : RequestHead → List Pair
pairs_of h = map name_and_value h.fields

-- the values of the fields of this name, in any case
abbrev pub values_named : List ℕ → List Pair → List (List ℕ)
values_named name pairs = map (λ p. p.1) (filter (λ p. str_eq_ignore_ascii_case p.0 name) pairs)

-- how many fields have this name
abbrev pub count_named : List ℕ → List Pair → ℕ
count_named name pairs = length (values_named name pairs)

-- the value that is the only one
abbrev pub only : List (List ℕ) → Option (List ℕ)
only [] = None
only (x ∷ []) = Some x
only (x ∷ y ∷ more) = None

-- a length is 1 to 9 digits
abbrev pub is_length : List ℕ → Bool
is_length value = nat_le 1 (length value) && nat_le (length value) 9 && list_all is_ascii_digit value

-- the number that a length writes
abbrev pub length_in : List ℕ → Option ℕ
length_in value = if is_length value then Some (digits_value 10 value) else None

-- version 1.1 with one Host, and nothing to expect
abbrev pub is_served : ℕ → List Pair → Bool
is_served minor pairs =
    minor == 1 && (count_named (codes "host") pairs == 1) && (count_named (codes "expect") pairs == 0)

-- a length that can be read, within the limit
abbrev pub limited : Option ℕ → Result ℕ Fault
limited None = Err Length
limited (Some n) = if nat_le n body_limit then Ok n else Err Large

-- the length that the fields say: none is 0, and two are refused
abbrev pub length_from : List (List ℕ) → Result ℕ Fault
length_from [] = Ok 0
length_from (value ∷ []) = limited (length_in value)
length_from (value ∷ second ∷ more) = Err Length

-- the number of bytes of the body, where no transfer coding is named
abbrev pub body_length : List Pair → Result ℕ Fault
body_length pairs =
    if count_named (codes "transfer-encoding") pairs == 0 then length_from (values_named (codes "content-length") pairs) else Err Length

-- the first fault of a head, tested on the head alone, or the number of bytes of its body
abbrev pub judged : ℕ → List Pair → Result ℕ Fault
judged minor pairs = if is_served minor pairs then body_length pairs else Err Version

-- the faults of a head: that no head can be there, and those that a head has
abbrev pub IsHeadFault : Fault → Type 0
IsHeadFault Head = Unit {0}
IsHeadFault Version = Unit {0}
IsHeadFault Length = Unit {0}
IsHeadFault Large = Unit {0}
IsHeadFault _ = ⊥

-- the connection is to close after the answer
abbrev pub is_close : Pair → Bool
is_close p = str_eq_ignore_ascii_case p.0 (codes "connection") && str_eq_ignore_ascii_case p.1 (codes "close")

-- one field says so
abbrev pub closes : List Pair → Bool
closes pairs = list_any is_close pairs
