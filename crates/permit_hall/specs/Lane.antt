-- The rule of a lane: what the owner sent is what was collected, and then what is queued. Pass, note, log and items are those
-- of the intake (`Intake.antt`), here of replies.
use Rattle.std.specs.Prelude.{◌≡◌, ℕ, Bool, true, List, ◌++◌}
use mathlib.Core.Option.{some}
use lib.ListN.{get_elem?}
use Rattle.permit_hall.specs.declared.lane.LaneNote.{LaneNote}

module _ {Y : Type 0} where
  -- a note: whether its pass sends and whether it collects, what was sent, and what was collected
  abbrev pub lane_note : Bool → Bool → List Y → List Y → LaneNote Y
  lane_note sends gets sent got = record { sends = sends; gets = gets; sent = sent; got = got }

  -- The note of a pass is right: no other pass sends, and what it sent is the log; no other collects, and what it collected,
  -- and then the items, are the log.
  abbrev pub FitsLane : List Y → List Y → ℕ → ℕ → ℕ → LaneNote Y → Type 0
  FitsLane log items writer reader pass v =
      (v.sends ≡ true → (pass ≡ writer) × (v.sent ≡ log)) × (v.gets ≡ true → (pass ≡ reader) × (v.got ++ items ≡ log))

  -- what holds of the items and of the notes of all passes, by their numbers, before and after each call
  abbrev pub Carried : List Y → List (LaneNote Y) → Type 0
  Carried items views =
      (log : List Y) × (writer : ℕ) × (reader : ℕ)
      × ((pass : ℕ) (v : LaneNote Y) → get_elem? views pass ≡ some v → FitsLane log items writer reader pass v)
