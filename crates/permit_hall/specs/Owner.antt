-- What the owner served.
use Rattle.std.specs.Prelude.{◌≡◌, ℕ, ◌<◌, true, false, List, [], length, slice_index_or, All}
use Rattle.crossbeam_channel.specs.Claims.{view, IsSeatAt}
use Rattle.crossbeam_channel.specs.Ends.{sends_on}
use Rattle.permit_hall.specs.Runs.{Entry, Runs, Gives, days_of, requests_of, replies_of}
use Rattle.permit_hall.specs.declared.intake.Envelope.{Envelope}
use Rattle.permit_hall.specs.declared.owner.Outlet.{Outlet}
use Rattle.permit_hall.specs.Intake.{requests_in}
use Rattle.permit_hall.specs.Lane.{lane_note}

-- The entries take the service from s to t. The clock is asked once for each, and goes from c to d. Each entry is of one of n
-- sessions, and the entries of a session have the requests that were taken of it.
pub record Serves {S A Y C : Type 0} (step : S → A → ℕ → Y → S → Type 0) (tick : C → ℕ → C → Type 0) (n : ℕ)
    (got : List (Envelope A)) (s t : S) (c d : C) (served : List (Entry A Y)) : Type 0 where
  pub runs : Runs step s served t
  pub days : Gives tick c (days_of served) d
  pub each : All (λ e. e.from < n) served
  pub requests : (p : ℕ) → p < n → requests_of p served ≡ requests_in p got

module _ {Y : Type 0} where
  -- it is the owner's end of a lane, and these replies were sent through it
  abbrev pub HasSent : List Y → Outlet Y → Type 0
  HasSent sent o = IsSeatAt (sends_on o.lane) o.lane_pass × (view o.lane_pass ≡ lane_note true false sent [])

  -- the ends after are of the same lanes as those before, in the same order
  abbrev pub SameLanes : List (Outlet Y) → List (Outlet Y) → Type 0
  SameLanes before after =
      (length after ≡ length before)
      × ((p : ℕ) (d : Outlet Y) → p < length before → sends_on (slice_index_or after p d).lane ≡ sends_on (slice_index_or before p d).lane)

module _ {A Y : Type 0} where
  -- each session's lane was sent the replies to its requests
  abbrev pub Sent : List (Entry A Y) → List (Outlet Y) → Type 0
  Sent served outlets = (p : ℕ) (d : Outlet Y) → p < length outlets → HasSent (replies_of p served) (slice_index_or outlets p d)
