-- Where the text of a file on a disk ends.
use Rattle.std.specs.Prelude.{◌≡◌, ℕ, Bool, List, length, IsTrue, Option}
use Rattle.std.specs.Option.{ForSome}

-- the end that is known is that of the text
abbrev pub IsAtEnd : List ℕ → Option ℕ → Type 0
IsAtEnd text end = ForSome end (λ n. n ≡ length text)

-- so it is, if the disk has reported nothing false
abbrev pub EndsThere : Bool → List ℕ → Option ℕ → Type 0
EndsThere is_clean text end = IsTrue is_clean → IsAtEnd text end
