-- A text that is read up to a line.
use Rattle.std.specs.Prelude.{◌≡◌, ◌⊎◌, ℕ, min, Bool, false, List, ◌++◌, Option, Some, OnSome}
use Rattle.std.specs.Io.KnownBytes.{Consumes, IsAtEnd}
use Rattle.sha2.specs.Hashers.{Holds256}
use Rattle.permit_history.specs.declared.evidence.Evidence.{Evidence}
use Rattle.permit_history.specs.declared.evidence.Prefix.{Prefix}
use Rattle.permit_history.specs.Evidence.{line_count, lines_of, IsOfPrefix}

-- the evidence of the first lines of the text, of at most so many
pub record IsEvidenceWithin (most : ℕ) (bytes : List ℕ) (evidence : Evidence) : Type 0 where
  pub lines : evidence.lines ≡ min most (line_count bytes)
  pub sha256 : IsOfPrefix bytes evidence

-- these bytes are read, and it has their first lines, at most so many
pub record IsPrefixOf (most : ℕ) (bytes : List ℕ) (prefix : Prefix) : Type 0 where
  pub lines : prefix.lines ≡ min most (line_count bytes)
  pub text : List ℕ
  pub first : lines_of prefix.lines bytes ≡ Some text
  pub whole : Holds256 prefix.whole text
  pub read : Holds256 prefix.read bytes

-- a piece of known bytes is taken and added; no more may follow where none is left, or all of the lines are there
pub record TakesPiece (most : ℕ) (before after : Option (List ℕ)) (old new : Prefix) (more : Bool) : Type 0 where
  pub piece : List ℕ
  pub taken : Consumes before after piece
  pub added : (bytes : List ℕ) → IsPrefixOf most bytes old → IsPrefixOf most (bytes ++ piece) new
  pub end : more ≡ false → (new.lines ≡ most) ⊎ OnSome before (IsAtEnd after)
