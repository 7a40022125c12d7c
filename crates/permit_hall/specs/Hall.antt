-- The ends of a hall belong together.
use Rattle.std.specs.Prelude.{◌≡◌, ℕ, ◌<◌, List, [], length, slice_index_or}
use Rattle.crossbeam_channel.specs.Claims.{view, IsSeatAt}
use Rattle.crossbeam_channel.specs.Ends.{sends_on, receives_on}
use Rattle.permit_hall.specs.declared.hall.Hall.{Hall}
use Rattle.permit_hall.specs.declared.owner.Outlet.{Outlet}
use Rattle.permit_hall.specs.declared.session.Session.{Session}
use Rattle.permit_hall.specs.Intake.{owner}
use Rattle.permit_hall.specs.Owner.{HasSent}
use Rattle.permit_hall.specs.Session.{Has}

module _ {A Y : Type 0} where
  -- the session of this number, on the hall's intake and on this lane
  abbrev pub IsOf : Hall A Y → ℕ → Outlet Y → Session A Y → Type 0
  IsOf h number o s = (s.number ≡ number) × (sends_on s.intake ≡ sends_on h.sender) × (receives_on s.lane ≡ sends_on o.lane)

  -- the two ends are those of one intake, and the owner's pass has its seat there (`Intake.antt` says what a pass is)
  abbrev pub IsWhole : Hall A Y → Type 0
  IsWhole h = (receives_on h.intake ≡ sends_on h.sender) × IsSeatAt (sends_on h.sender) h.pass

  -- nothing was put, and each session has its number, its seat at the intake and its lane
  abbrev pub IsNew : Hall A Y → List (Session A Y) → Type 0
  IsNew h sessions =
      IsWhole h × (view h.pass ≡ owner (length sessions) [] []) × (length h.outlets.items ≡ length sessions)
      × ((k : ℕ) (o : Outlet Y) (s : Session A Y) → k < length sessions
      → HasSent [] (slice_index_or h.outlets.items k o) × Has (slice_index_or sessions k s) [] []
      × IsOf h k (slice_index_or h.outlets.items k o) (slice_index_or sessions k s))
