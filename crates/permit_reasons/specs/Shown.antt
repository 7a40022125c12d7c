-- A text that was typed, as it is shown.
use Rattle.std.specs.Prelude.{ℕ, if◌then◌else◌, List, [], ◌++◌, map, take, codes, decimal, encode_utf8_all, Option, None, Some, option_and_then}
use Rattle.std.specs.Char.{is_control}
use Rattle.std.specs.Str.{chars}
use Rattle.toml.specs.Data.{Data, get, as_str}

-- `?` in place of a control character
abbrev pub shown_letter : ℕ → ℕ
shown_letter letter = if is_control letter then 63 else letter

-- its first 60 characters
abbrev pub shown : List ℕ → List ℕ
shown text = encode_utf8_all (map shown_letter (take 60 (chars text)))

-- the text in backquotes
abbrev pub quoted : List ℕ → List ℕ
quoted text = codes "`" ++ shown text ++ codes "`"

-- the name of a rule, after a space, where it is a text
abbrev pub name_part : Option (List ℕ) → List ℕ
name_part None = []
name_part (Some name) = codes " " ++ quoted name

-- a rule by its place, from 1, and its name
abbrev pub rule_head : ℕ → Data → List ℕ
rule_head place entry = codes "rule " ++ decimal place ++ name_part (option_and_then as_str (get (codes "name") entry))
