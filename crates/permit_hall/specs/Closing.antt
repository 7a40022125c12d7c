-- The sessions of a hall at its end.
use Rattle.std.specs.Prelude.{◌≡◌, ◌<◌, ℕ, List, [], ◌++◌, length, slice_index_or, Option, MatchOption}
use Rattle.crossbeam_channel.specs.Claims.{view}
use Rattle.crossbeam_channel.specs.Ends.{sends_on, receives_on}
use Rattle.permit_hall.specs.declared.owner.Outlet.{Outlet}
use Rattle.permit_hall.specs.declared.session.Session.{Session}
use Rattle.permit_hall.specs.declared.worker.Worker.{Worker}
use Rattle.permit_hall.specs.Owner.{HasSent}

-- what was sent through the owner's end of a lane, by its note
abbrev pub sent_by : {Y : Type 0} → Outlet Y → List Y
sent_by o = (view o.lane_pass).sent

module _ {A Y : Type 0} where
  -- the outlet has sent what it says, and the session of this number is on the intake and on the outlet's lane
  abbrev pub IsPlaced : (Session A Y → Type 0) → ℕ → Outlet Y → Session A Y → Type 0
  IsPlaced on_intake number o s = HasSent (sent_by o) o × (s.number ≡ number) × on_intake s × (receives_on s.lane ≡ sends_on o.lane)

module _ {A Y O T : Type 0} (did : T → List A → List Y → O → Type 0) where
  -- Where the worker gave something back, the task was done with as many answers as requests, and these answers are the first
  -- of the replies that were sent. Where it gave nothing back, nothing was put.
  abbrev pub Closed : List A → List Y → T → Option O → Type 0
  Closed put sent task out =
      MatchOption out (put ≡ []) (λ x. (got : List Y) × (rest : List Y) × (sent ≡ got ++ rest) × (length put ≡ length got) × did task put got x)

  -- so it is for each session that came back: `known` has what each had put, in the order of their numbers
  abbrev pub AreClosed : List (List A) → List (Outlet Y) → List (Worker A Y O T) → List (Option O) → Type 0
  AreClosed known outlets workers outs =
      (length known ≡ length outs)
      × ((k : ℕ) (o : Outlet Y) (w : Worker A Y O T) (a : Option O) → k < length outs
      → Closed (slice_index_or known k []) (sent_by (slice_index_or outlets k o)) (slice_index_or workers k w).task.value (slice_index_or outs k a))
