-- What goes out where a write fails.
use Rattle.std.specs.Prelude.{◌<◌, ℕ, List, length, take, Option}
use Rattle.std.specs.Io.KnownBytes.{Appends}

-- known bytes grew by a prefix of the text, which isn't the whole
pub record WroteFront (old new : Option (List ℕ)) (text : List ℕ) : Type 0 where
  pub count : ℕ
  pub within : count < length text
  pub wrote : Appends old new (take count text)
