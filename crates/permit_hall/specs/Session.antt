-- A session that waits for no answer. `Intake.antt` says what a pass, its note and its seat are.
use Rattle.std.specs.Prelude.{◌≡◌, true, false, List, [], ◌∷◌, ◌++◌}
use Rattle.crossbeam_channel.specs.Claims.{view, IsSeatAt}
use Rattle.crossbeam_channel.specs.Ends.{sends_on, receives_on}
use Rattle.permit_hall.specs.declared.session.Session.{Session}
use Rattle.permit_hall.specs.Intake.{session}
use Rattle.permit_hall.specs.Lane.{lane_note}

module _ {A Y : Type 0} where
  -- it has put these requests and collected these answers, and no other pass of its intake and its lane does that for it
  abbrev pub Has : Session A Y → List A → List Y → Type 0
  Has s put got =
      IsSeatAt (sends_on s.intake) s.pass × IsSeatAt (receives_on s.lane) s.lane_pass
      × (view s.pass ≡ session s.number put) × (view s.lane_pass ≡ lane_note false true [] got)

  -- what it has put, by its note
  abbrev pub put_by : Session A Y → List A
  put_by s = (view s.pass).put

  -- what it has collected, by its note
  abbrev pub got_by : Session A Y → List Y
  got_by s = (view s.lane_pass).got

  -- its notes are right
  abbrev pub IsSession : Session A Y → Type 0
  IsSession s = Has s (put_by s) (got_by s)

  -- the second is the first at a later time: of its number, at its intake and its lane
  abbrev pub IsSamePlace : Session A Y → Session A Y → Type 0
  IsSamePlace s t = (t.number ≡ s.number) × (sends_on t.intake ≡ sends_on s.intake) × (receives_on t.lane ≡ receives_on s.lane)

  -- it has put the request and collected the answer, and nothing else
  abbrev pub Asks : Session A Y → A → Y → Session A Y → Type 0
  Asks s request answer t = Has t (put_by s ++ request ∷ []) (got_by s ++ answer ∷ []) × IsSamePlace s t
