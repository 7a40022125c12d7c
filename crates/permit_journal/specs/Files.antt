-- What the calls of a file do to its text, and what a crash may leave of it.
use Rattle.std.specs.Prelude.{◌≡◌, Bool, List, ℕ, ◌++◌}

-- what contracts see of a file
pub record FileView : Type 1 where
  -- the bytes that a reading of it gives
  pub text : List ℕ
  -- what a crash at this moment may leave
  pub may_leave : List ℕ → Type 0
  -- It appends at the end of the text. So it does where no call has returned something false, and a call that reads doesn't end it.
  pub is_at_end : Type 0
  -- No call has returned something false. A call that reads may end this too, and no code can detect it.
  pub is_clean : Bool

-- the text with a part of the bytes after it, of those parts that `leaves` allows
pub record Grown (leaves : List ℕ → List ℕ → Type 0) (bytes old new : List ℕ) : Type 0 where
  pub part : List ℕ
  pub allowed : leaves bytes part
  pub grown : new ≡ old ++ part

-- a prefix of the bytes: nothing, a part of them, or all
abbrev pub IsFront : List ℕ → List ℕ → Type 0
IsFront bytes part = (rest : List ℕ) × (bytes ≡ part ++ rest)

-- a crash leaves this text and nothing else
abbrev pub Only : List ℕ → (List ℕ → Type 0) → Type 0
Only text outcomes = (c : List ℕ) → outcomes c → c ≡ text

-- a crash leaves this text, with a part of the bytes after it
abbrev pub LeavesGrown : (List ℕ → List ℕ → Type 0) → List ℕ → List ℕ → (List ℕ → Type 0) → Type 0
LeavesGrown leaves bytes base outcomes = (c : List ℕ) → outcomes c → Grown leaves bytes base c
