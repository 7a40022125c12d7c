-- Which reads a message needs.
use Rattle.std.specs.Prelude.{◌≡◌, ◌⊎◌, ℕ, List, [], ◌∷◌, ◌++◌, true}
use Rattle.permit_http.specs.Head.{IsOpen}
use Rattle.permit_http.specs.Message.{LacksBody}
use Rattle.permit_http.specs.Stream.{InboxData}

-- Bytes that decide nothing yet. Either a head may still come: none is there, and the bytes are fewer than a head may
-- have. Or a head is there whose body isn't whole.
abbrev pub IsWaiting : List ℕ → Type 0
IsWaiting bytes = IsOpen bytes ⊎ LacksBody bytes

module _ {R : Type 0} (waits : List ℕ → Type 0) (gave : R → List ℕ → R → Type 0) where
  -- The reads gave these pieces, one after the other. Each read was made where the bytes so far still waited for more.
  -- `last` and `after` are the bytes and the reader after the last read.
  abbrev pub ReadsOn : List ℕ → R → List (List ℕ) → List ℕ → R → Type 0
  ReadsOn bytes reader [] last after = (last ≡ bytes) × (after ≡ reader)
  ReadsOn bytes reader (piece ∷ pieces) last after =
      (between : R) × waits bytes × gave reader piece between × ReadsOn (bytes ++ piece) between pieces last after

  -- the same, whatever the pieces are
  abbrev pub ReadsWhile : List ℕ → R → List ℕ → R → Type 0
  ReadsWhile bytes reader last after = (pieces : List (List ℕ)) × ReadsOn bytes reader pieces last after

-- Each read for a message was made where the bytes so far decide nothing. On a closed connection none was made.
abbrev pub ReadsNeeded : {R : Type 0} → (R → List ℕ → R → Type 0) → InboxData → R → List ℕ → R → Type 0
ReadsNeeded gave inbox reader last after = ReadsWhile IsWaiting gave inbox.bytes reader last after × (inbox.closed ≡ true → after ≡ reader)
