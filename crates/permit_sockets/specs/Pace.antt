-- How long a read or a write of a connection may wait.
use Rattle.std.specs.Prelude.{◌≡◌, ◌<◌, ◌≤◌, ◌-◌, ◌*◌, ℕ, Bool, Option, Some, None, if◌then◌else◌}
use Rattle.std.specs.Duration.{as_nanos}
use Rattle.std.specs.Time.{instant_nanos}
use Rattle.std.specs.declared.time.Duration.{Duration}
use Rattle.std.specs.declared.time.Instant.{Instant}

-- so many seconds in nanoseconds
abbrev pub in_nanos : ℕ → ℕ
in_nanos seconds = seconds * 1_000_000_000

-- so many seconds a connection may say nothing before a request, and a request and an answer may take
abbrev pub idle_time : ℕ
idle_time = 2

abbrev pub request_time : ℕ
request_time = 10

abbrev pub answer_time : ℕ
answer_time = 10

-- something is left of so many seconds, which is them without what went by
pub record IsLeft (seconds : ℕ) (since now : Instant) (rest : Duration) : Type 0 where
  pub some : 0 < as_nanos rest
  pub rest_is : as_nanos rest ≡ in_nanos seconds - (instant_nanos now - instant_nanos since)

-- when the first byte came of the request that is read: with an answer written since, none came yet
abbrev pub begun : Bool → Option Instant → Option Instant
begun answered since = if answered then None else since

-- a read may wait 2 seconds for the first byte of a request, and after it what is left of 10
abbrev pub MayWait : Option Instant → Instant → Duration → Type 0
MayWait None now wait = as_nanos wait ≡ in_nanos idle_time
MayWait (Some since) now wait = IsLeft request_time since now wait

-- a request that came in part has had its 10 seconds
abbrev pub IsOver : Option Instant → Instant → Type 0
IsOver None now = ⊥
IsOver (Some since) now = in_nanos request_time ≤ instant_nanos now - instant_nanos since
