-- The bytes of a connection: those that were read and not used, and those that its reader has left.
use Rattle.std.specs.Prelude.{◌≡◌, ℕ, List, [], ◌++◌, Bool, false, Option}
use Rattle.std.specs.Io.KnownBytes.{prepend_known, Keeps}

-- what an inbox holds: the bytes not used yet, the answers counted (at most 100), and whether the connection closes
pub record InboxData : Type 0 where
  pub bytes : List ℕ
  pub count : ℕ
  pub closed : Bool

-- an inbox at the start of a connection
abbrev pub fresh : InboxData
fresh = record { bytes = []; count = 0; closed = false }

-- the bytes that were read and not used, and then those that the reader has left, where these are known
abbrev pub stream : InboxData → Option (List ℕ) → Option (List ℕ)
stream inbox left = prepend_known inbox.bytes left

-- bytes went from the reader into the inbox, and nothing else changed
pub record Filled (old new : InboxData) (before after : Option (List ℕ)) : Type 0 where
  pub stream : Keeps (stream old before) (stream new after)
  pub count : new.count ≡ old.count
  pub closed : new.closed ≡ old.closed
  pub more : List ℕ
  pub grown : new.bytes ≡ old.bytes ++ more
