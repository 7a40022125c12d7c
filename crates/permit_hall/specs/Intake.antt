-- The rule of the intake: what a session put is what was taken of it, and then what is queued.
--
-- A pass is the library's: a value that goes with each call on a channel, and represents in proofs what its holder knows of
-- that channel. What it knows is its note, an `IntakeNote` here; v is the note before a call, and w the one after it. Passes
-- have numbers. A pass has its seat at a channel (`IsSeatAt`) where it is one of that channel's. m is an envelope, the log
-- all envelopes that were ever put, and the items are those that are queued.
use Rattle.std.specs.Prelude.{◌≡◌, ℕ, ◌+◌, ◌<◌, ◌≤◌, ◌==◌, true, false, List, [], ◌∷◌, ◌++◌, length, slice_index_or}
use Rattle.std.specs.Prelude.{if◌then◌else◌, Option, Some, None}
use mathlib.Core.Option.{some}
use lib.ListN.{get_elem?}
use Rattle.permit_hall.specs.declared.intake.Envelope.{Envelope}
use Rattle.permit_hall.specs.declared.intake.IntakeNote.{IntakeNote}

module _ {A : Type 0} where
  -- an envelope's request. An end mark has none
  abbrev pub said : Option A → List A
  said None = []
  said (Some a) = a ∷ []

  -- the requests of a session among the envelopes
  abbrev pub requests_in : ℕ → List (Envelope A) → List A
  requests_in session [] = []
  requests_in session (m ∷ ms) = if m.from == session then said m.request ++ requests_in session ms else requests_in session ms

  -- the owner's note: how many sessions were made, what was taken, and what each session that came back had put
  abbrev pub owner : ℕ → List (Envelope A) → List (List A) → IntakeNote A
  owner made got known = record { sends = false; gets = true; from = 0; made = made; put = []; got = got; known = known }

  -- a session's note: its number, and what it put
  abbrev pub session : ℕ → List A → IntakeNote A
  session from put = record { sends = true; gets = false; from = from; made = 0; put = put; got = []; known = [] }

  -- the note of a pass that came back, which neither puts nor takes
  abbrev pub nobody : IntakeNote A
  nobody = record { sends = false; gets = false; from = 0; made = 0; put = []; got = []; known = [] }

  -- The note of a pass that puts is right: no other pass puts for its session, and what it put is what the log has of it.
  -- `seat p` is 1 more than the number of the pass that puts for session p, or 0 where none does.
  abbrev pub FitsSender : List (Envelope A) → (ℕ → ℕ) → ℕ → IntakeNote A → Type 0
  FitsSender log seat pass v = v.sends ≡ true → (seat v.from ≡ pass + 1) × (v.put ≡ requests_in v.from log)

  -- The note of a pass that takes is right. No other pass takes; what was taken, and then the items, are the log. The sessions
  -- that aren't made yet have put nothing. Those that came back put nothing more, and what each had put is what the log has.
  abbrev pub FitsOwner : List (Envelope A) → List (Envelope A) → (ℕ → ℕ) → ℕ → ℕ → IntakeNote A → Type 0
  FitsOwner log items seat reader pass v =
      v.gets ≡ true
      → (pass ≡ reader) × (v.got ++ items ≡ log)
      × ((p : ℕ) → v.made ≤ p → (seat p ≡ 0) × (requests_in p log ≡ []))
      × ((k : ℕ) → k < length v.known → (seat k ≡ 0) × (slice_index_or v.known k [] ≡ requests_in k log))
      × (length v.known ≤ v.made)

  -- the note of a pass is right
  abbrev pub Fits : List (Envelope A) → List (Envelope A) → (ℕ → ℕ) → ℕ → ℕ → IntakeNote A → Type 0
  Fits log items seat reader pass v = FitsSender log seat pass v × FitsOwner log items seat reader pass v

  -- what holds of the items and of the notes of all passes, by their numbers, before and after each call
  abbrev pub Taken : List (Envelope A) → List (IntakeNote A) → Type 0
  Taken items views =
      (log : List (Envelope A)) × (seat : ℕ → ℕ) × (reader : ℕ)
      × ((pass : ℕ) (v : IntakeNote A) → get_elem? views pass ≡ some v → Fits log items seat reader pass v)

  -- by a put the session's note has one request more, and by an end mark none
  abbrev pub PutsOne : IntakeNote A → Envelope A → IntakeNote A → Type 0
  PutsOne v m w = w ≡ session v.from (v.put ++ said m.request)

  -- by a take the owner's note has one envelope more
  abbrev pub TakesOne : IntakeNote A → Envelope A → IntakeNote A → Type 0
  TakesOne v m w = w ≡ owner v.made (v.got ++ m ∷ []) v.known

  -- what each session that came back had put is what was taken of it, and then what is queued
  abbrev pub Compares : IntakeNote A → List (Envelope A) → Type 0
  Compares v items = (k : ℕ) → k < length v.known → slice_index_or v.known k [] ≡ requests_in k (v.got ++ items)
