-- A text that is read to its end, for where its lines end.
use Rattle.std.specs.Prelude.{◌≡◌, ℕ, Bool, false, List, ◌++◌, length, Option, OnSome}
use Rattle.std.specs.Io.KnownBytes.{Consumes, IsAtEnd}
use Rattle.permit_history.specs.declared.settled.LineEnds.{LineEnds}
use Rattle.permit_history.specs.Evidence.{line_count}
use Rattle.permit_history.specs.Settled.{EndsAt, IsSettledLength}

-- the whole lines of a text end here, and there without the last of them
pub record EndAt (bytes : List ℕ) (here there : ℕ) : Type 0 where
  pub last : EndsAt (line_count bytes) bytes here
  pub settled : IsSettledLength bytes there

-- these bytes are read, and their lines end there
pub record AreLineEndsOf (bytes : List ℕ) (ends : LineEnds) : Type 0 where
  pub read : ends.read ≡ length bytes
  pub lines : EndAt bytes ends.last ends.settled

-- a piece of known bytes is taken and added; no more may follow where none is left
pub record AddsPiece (before after : Option (List ℕ)) (old new : LineEnds) (more : Bool) : Type 0 where
  pub piece : List ℕ
  pub taken : Consumes before after piece
  pub added : (bytes : List ℕ) → AreLineEndsOf bytes old → AreLineEndsOf (bytes ++ piece) new
  pub end : more ≡ false → OnSome before (IsAtEnd after)
