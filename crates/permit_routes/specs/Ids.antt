-- The number of a parcel or a file, as a path spells it.
use Rattle.std.specs.Prelude.{ℕ, Bool, false, not, ◌&&◌, ◌==◌, nat_le, List, [], ◌∷◌, length, Option, Some, None, option_and_then, if◌then◌else◌}
use Rattle.std.specs.List.{list_all}
use Rattle.std.specs.Char.{is_ascii_digit}
use Rattle.std.specs.Str.Parse.{digits_value}
use Rattle.permit_base.specs.Limits.{only_if, is_object_number}

-- the text begins with the digit 0
abbrev pub starts_with_zero : List ℕ → Bool
starts_with_zero [] = false
starts_with_zero (c ∷ rest) = c == 48

-- digits, and no leading zero
abbrev pub is_plain_number : List ℕ → Bool
is_plain_number word = nat_le 1 (length word) && list_all is_ascii_digit word && not (starts_with_zero word)

-- the number that the digits write, where no leading zero is before them
abbrev pub number_in : List ℕ → Option ℕ
number_in word = if is_plain_number word then Some (digits_value 10 word) else None

-- an id is a record's number without leading zeros
abbrev pub id_in : List ℕ → Option ℕ
id_in word = option_and_then (only_if is_object_number) (number_in word)
