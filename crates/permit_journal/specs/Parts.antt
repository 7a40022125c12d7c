-- What a write to a disk that is cut short may leave.
use Rattle.std.specs.Prelude.{ℕ, ◌≤◌, List, length}

-- any bytes, but no more of them than were written
abbrev pub AreNoMore : List ℕ → List ℕ → Type 0
AreNoMore bytes part = length part ≤ length bytes
