-- What the queues of a hall hold, after what acted.
use Rattle.std.specs.Prelude.{◌≡◌, ℕ, ◌+◌, ◌≤◌, Vec, vec_capacity, List, ◌++◌, length, map, drop}
use Rattle.std.specs.Global.{Global}
use Rattle.permit_hall.specs.Runs.{Entry, Runs, replies_of}
use Rattle.permit_hall.specs.Counts.{Acted, AreTaken, given_to}

module _ {A Y : Type 0} where
  -- the queue has the puts that are not served, and of each session the replies are those given and those that are ready
  pub record Keeps (h : Acted A) (served : List (Entry A Y)) (queue : List (ℕ × A)) (ready given : List (ℕ × Y)) : Type 0 where
    pub queued : queue ≡ drop (length h.days) h.puts
    pub behind : length h.days ≤ length h.puts
    pub taken : AreTaken h served
    pub collected : map (λ g. g.0) given ≡ h.collects
    pub replies : (s : ℕ) → replies_of s served ≡ given_to s given ++ given_to s ready

-- The service went from s to t by serving some requests, and the queues are as what acted leaves them.
abbrev pub IsAt : {S A Y : Type 0} → (S → A → ℕ → Y → S → Type 0) → S → S → Acted A → List (ℕ × A) → List (ℕ × Y) → List (ℕ × Y) → Type 0
IsAt {A = A} {Y = Y} step s t h queue ready given =
    (served : List (Entry A Y)) × Runs step s served t × Keeps h served queue ready given

-- one item more at most, in the same room
abbrev pub GrowsByOneAtMost : {X : Type 0} → Vec X Global → Vec X Global → Type 0
GrowsByOneAtMost old new = (vec_capacity new ≡ vec_capacity old) × (length new.items ≤ length old.items + 1)
