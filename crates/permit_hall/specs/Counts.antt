-- Which events act: by what has acted before, kept in three lists. An event that can't act does nothing.
use Rattle.std.specs.Prelude.{◌≡◌, ℕ, ◌+◌, Bool, List, [], ◌∷◌, ◌++◌, length, map, filter, take}
use Rattle.std.specs.Prelude.{if◌then◌else◌, ◌==◌, ◌&&◌, nat_lt}
use Rattle.permit_model.specs.HallRun.{Event, Put, Take, Collect, count_of}
use Rattle.permit_hall.specs.Runs.{Entry, replies_of}

-- what acted: the puts, with their sessions, the takes' days, and the collects' sessions
pub record Acted (A : Type 0) : Type 0 where
  pub puts : List (ℕ × A)
  pub days : List ℕ
  pub collects : List ℕ

module _ {A : Type 0} where
  -- of the puts, in order, the sessions
  abbrev pub sessions : List (ℕ × A) → List ℕ
  sessions puts = map (λ p. p.0) puts

  -- the puts that were served: the k-th take serves the k-th put
  abbrev pub served_puts : Acted A → List (ℕ × A)
  served_puts h = take (length h.days) h.puts

  -- the session waits for no answer, and there is room
  abbrev pub puts_now : Acted A → ℕ → Bool
  puts_now h s = (count_of s (sessions h.puts) == count_of s h.collects) && nat_lt (length h.puts) (length h.days + 64)

  -- a request waits
  abbrev pub takes_now : Acted A → Bool
  takes_now h = nat_lt (length h.days) (length h.puts)

  -- an answer of the session waits
  abbrev pub collects_now : Acted A → ℕ → Bool
  collects_now h s = nat_lt (count_of s h.collects) (count_of s (sessions (served_puts h)))

  -- what has acted after an event: the event too, where it acts
  abbrev pub after : Acted A → Event A → Acted A
  after h (Put s a) = if puts_now h s then record h { puts = h.puts ++ (s, a) ∷ [] } else h
  after h (Take d) = if takes_now h then record h { days = h.days ++ d ∷ [] } else h
  after h (Collect s) = if collects_now h s then record h { collects = h.collects ++ s ∷ [] } else h

  abbrev pub acted_from : Acted A → List (Event A) → Acted A
  acted_from h [] = h
  acted_from h (e ∷ es) = acted_from (after h e) es

  -- what acts of the events
  abbrev pub acted : List (Event A) → Acted A
  acted events = acted_from (record { puts = []; days = []; collects = [] }) events

-- the answers given to a session
abbrev pub given_to : {Y : Type 0} → ℕ → List (ℕ × Y) → List Y
given_to s given = map (λ g. g.1) (filter (λ g. g.0 == s) given)

module _ {A Y : Type 0} where
  -- the entries are the served puts, each on the day of its take
  abbrev pub AreTaken : Acted A → List (Entry A Y) → Type 0
  AreTaken h served = (map (λ e. (e.from, e.request)) served ≡ served_puts h) × (map (λ e. e.day) served ≡ h.days)

  -- the answers go to the collects' sessions, in order; a session's n-th answer is the n-th reply to its requests
  abbrev pub AreGiven : Acted A → List (Entry A Y) → List (ℕ × Y) → Type 0
  AreGiven h served given = (map (λ g. g.0) given ≡ h.collects) × ((s : ℕ) → given_to s given ≡ take (count_of s h.collects) (replies_of s served))
