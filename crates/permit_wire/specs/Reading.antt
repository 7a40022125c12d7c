-- What the start of a stream asks: a request and the rest, a fault, or the end.
use Rattle.std.specs.Prelude.{◌≡◌, ℕ, ◌+◌, Bool, true, false, ◌||◌, nat_le, min, List, Option, Some, None, Result, Ok, Err, drop}
use Rattle.permit_base.specs.declared.request.Asked.{Asked}
use Rattle.permit_http.specs.Stream.{InboxData, stream}
use Rattle.permit_http.specs.Message.{MessageData, IsIncoming, IsMessage, nothing, cut, refused}
use Rattle.permit_http.specs.declared.error.WireError.{WireError}
use Rattle.permit_http.specs.declared.error.WireError.TheVariants as error
use Rattle.permit_http.specs.declared.fault.Fault.{Fault}
use Rattle.permit_http.specs.declared.fault.Fault.TheVariants.{Head, Version, Length, Large, Route, Caller, Body, Memory}
use Rattle.permit_http.specs.declared.message.MessageSpans.{MessageSpans}
use Rattle.permit_wire.specs.Asked.{asked_in}

-- what the start of a stream can ask
pub data Reading : Type 0 where
  -- the end, outside a request
  Nothing : Reading
  -- the end, inside a request
  Cut : Reading
  -- a fault of the head, which closes the connection
  Refused : (fault : Fault) → Reading
  -- a fault of a whole message, which keeps the connection; whether its head closes it all the same; and the rest
  Kept : (fault : Fault) (closes : Bool) (rest : List ℕ) → Reading
  -- a request, whether its head closes the connection, and the rest
  Request : (asked : Asked) (closes : Bool) (rest : List ℕ) → Reading

-- a whole message of this meaning is in front of the rest
abbrev pub Asks : List ℕ → Result Asked Fault → Bool → List ℕ → Type 0
Asks bytes meaning closes rest =
    (m : MessageData) × IsMessage bytes m rest × (asked_in m ≡ meaning) × (m.closes ≡ closes)

-- What it asks. Where no whole head can come any more, a fault of the head is allowed, and so is the end.
abbrev pub AskedOf : List ℕ → Reading → Type 0
AskedOf bytes Nothing = IsIncoming bytes nothing
AskedOf bytes Cut = IsIncoming bytes cut
AskedOf bytes (Refused fault) = IsIncoming bytes (refused fault)
AskedOf bytes (Kept fault closes rest) = Asks bytes (Err fault) closes rest
AskedOf bytes (Request asked closes rest) = Asks bytes (Ok asked) closes rest

-- on a closed connection it is the end outside a request, whatever bytes are there
abbrev pub AskedFrom : Bool → List ℕ → Reading → Type 0
AskedFrom false bytes reading = AskedOf bytes reading
AskedFrom true bytes reading = reading ≡ Nothing

-- the connection closes after an answer: it was closed, the head asks for it, or it is the 100th
abbrev pub closes_after : InboxData → Bool → Bool
closes_after inbox closes = inbox.closed || closes || nat_le 100 (inbox.count + 1)

-- the request's own bytes are gone, those after it stay, and one answer more is counted
pub record LetGo (old new : InboxData) (left : Option (List ℕ)) (closes : Bool) (rest : List ℕ) : Type 0 where
  pub behind : stream new left ≡ Some rest
  pub count : new.count ≡ min 100 (old.count + 1)
  pub closed : new.closed ≡ closes_after old closes

-- what was read where there is a fault; memory runs out only for a whole message
abbrev pub FaultRead : List ℕ → InboxData → InboxData → Option (List ℕ) → Fault → Type 0
FaultRead bytes old new left Head = AskedFrom old.closed bytes (Refused Head)
FaultRead bytes old new left Version = AskedFrom old.closed bytes (Refused Version)
FaultRead bytes old new left Length = AskedFrom old.closed bytes (Refused Length)
FaultRead bytes old new left Large = AskedFrom old.closed bytes (Refused Large)
FaultRead bytes old new left Memory = (m : MessageData) × (rest : List ℕ) × (old.closed ≡ false) × IsMessage bytes m rest
FaultRead bytes old new left fault =
    (closes : Bool) × (rest : List ℕ) × AskedFrom old.closed bytes (Kept fault closes rest) × LetGo old new left closes rest

-- what was read on a stream of these bytes
abbrev pub RequestRead : List ℕ → InboxData → InboxData → Option (List ℕ) → Result (Option Asked) WireError → Type 0
RequestRead bytes old new left (Ok None) = AskedFrom old.closed bytes Nothing
RequestRead bytes old new left (Ok (Some asked)) =
    (closes : Bool) × (rest : List ℕ) × AskedFrom old.closed bytes (Request asked closes rest) × LetGo old new left closes rest
RequestRead bytes old new left (Err error.ReadFailed) = Unit {0}
RequestRead bytes old new left (Err error.Ended) = AskedFrom old.closed bytes Cut
RequestRead bytes old new left (Err (error.Fault fault)) = FaultRead bytes old new left fault

-- one request is read from an inbox and what its reader has left
abbrev pub ReadsRequest : InboxData → InboxData → Option (List ℕ) → Option (List ℕ) → Result (Option Asked) WireError → Type 0
ReadsRequest old new before after r = (bytes : List ℕ) → stream old before ≡ Some bytes → RequestRead bytes old new after r

-- whether the connection stays open after a fault
abbrev pub is_kept : Fault → Bool
is_kept Route = true
is_kept Caller = true
is_kept Body = true
is_kept _ = false

-- the same of an error in reading: where it is no fault, nothing more can be read
abbrev pub stays_open : WireError → Bool
stays_open (error.Fault fault) = is_kept fault
stays_open _ = false

-- the result is this meaning; that memory ran out says nothing of it
abbrev pub MeansAsked : Result Asked Fault → Result Asked Fault → Type 0
MeansAsked (Ok asked) meaning = meaning ≡ Ok asked
MeansAsked (Err Memory) meaning = Unit {0}
MeansAsked (Err fault) meaning = (meaning ≡ Err fault) × (is_kept fault ≡ true)

-- a message was read out: unless memory ran out, its bytes are gone and one answer more is counted
abbrev pub ReadsOut : InboxData → InboxData → MessageSpans → Result Asked Fault → Type 0
ReadsOut old new s (Err Memory) = new.closed ≡ true
ReadsOut old new s r =
    (new.bytes ≡ drop s.body.end old.bytes) × (new.count ≡ min 100 (old.count + 1)) × (new.closed ≡ closes_after old s.closes)
