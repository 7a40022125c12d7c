-- Where the lines of a text end, and how much of it is settled.
use Rattle.std.specs.Prelude.{◌≡◌, ◌-◌, ◌≤◌, ℕ, List, length, take, Some}
use Rattle.permit_history.specs.Evidence.{line_count, lines_of}

-- the first lines of a text, so many of them, are its first n bytes
pub record EndsAt (lines : ℕ) (bytes : List ℕ) (n : ℕ) : Type 0 where
  pub text : lines_of lines bytes ≡ Some (take n bytes)
  pub within : n ≤ length bytes

-- the whole lines of a text but the last one are its first n bytes: none where it has no line or one
abbrev pub IsSettledLength : List ℕ → ℕ → Type 0
IsSettledLength bytes n = EndsAt (line_count bytes - 1) bytes n
