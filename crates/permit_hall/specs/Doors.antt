-- What a session that serves a door has done.
use Rattle.std.specs.Prelude.{◌≡◌, ℕ, ◌-◌, ◌^◌, min, List, [], ◌∷◌, ◌++◌, length, slice_get, Option, Some, None, MatchOption}
use Rattle.permit_base.specs.declared.request.Asked.{Asked}
use Rattle.permit_http.specs.Stream.{fresh}
use Rattle.permit_wire.specs.Conversation.{Exchanges, Conversation}
use Rattle.permit_wire.specs.declared.serve.Served.{Served}
use Rattle.permit_wire.specs.declared.service.Dated.{Dated}
use Rattle.permit_hall.specs.declared.doors.DoorEnd.{DoorEnd}
use Rattle.permit_hall.specs.declared.session.Session.{Session}
use Rattle.permit_hall.specs.Session.{put_by, got_by}
use Rattle.permit_hall.specs.Runs.{Entry, requests_of, replies_of}

-- A connection that a door gave: its reader and its writer, its writer as it was left, and the requests that were put for
-- it, with the replies that were collected.
pub record Talk (In Out : Type 0) : Type 0 where
  pub reader : In
  pub writer : Out
  pub left : Out
  pub exchanges : Exchanges

-- the requests put for connections, one after the other, and the replies collected
abbrev pub puts_of : {In Out : Type 0} → List (Talk In Out) → List Asked
puts_of [] = []
puts_of (talk ∷ talks) = talk.exchanges.put ++ puts_of talks

abbrev pub gots_of : {In Out : Type 0} → List (Talk In Out) → List Dated
gots_of [] = []
gots_of (talk ∷ talks) = talk.exchanges.got ++ gots_of talks

-- a count stops at the greatest
abbrev pub capped : ℕ → ℕ
capped n = min n (2 ^ 64 - 1)

module _ {In Out : Type 0} (remaining : In → Option (List ℕ)) (contents : Out → Option (List ℕ)) where
  -- Where the reader's bytes are known, what they ask was served. The requests put are those of the bytes. What the writer holds
  -- more than before is the answers to them, and to the faults between them.
  abbrev pub IsHeld : Talk In Out → Type 0
  IsHeld talk = (bytes : List ℕ) → remaining talk.reader ≡ Some bytes
      → (ended : Served) × Conversation (contents talk.left) ended bytes fresh (contents talk.writer) talk.exchanges

  -- the connection was served, and what the session has put and collected more than before is that of the connection
  abbrev pub Holds : Session Asked Dated → Session Asked Dated → In → Out → Out → Type 0
  Holds old new reader writer left = (exchanges : Exchanges) × (put_by new ≡ put_by old ++ exchanges.put) × (got_by new ≡ got_by old ++ exchanges.got)
      × IsHeld (record { reader = reader; writer = writer; left = left; exchanges = exchanges })

  module _ {D : Type 0} (gave : D → Option (In × Out) → D → Type 0) where
    -- the door gave these connections, one after the other, and each was served
    abbrev pub HasGiven : D → List (Talk In Out) → D → Type 0
    HasGiven door [] end = door ≡ end
    HasGiven door (talk ∷ talks) end = (next : D) × gave door (Some (talk.reader, talk.writer)) next × IsHeld talk × HasGiven next talks end

    -- The door gave connections until no more came, and each was served. The requests put and the replies collected are
    -- those of these connections, in order.
    pub record HasServed (door : D) (put : List Asked) (got : List Dated) (end : D) : Type 0 where
      pub talks : List (Talk In Out)
      pub last : D
      pub given : HasGiven door talks last
      pub over : gave last None end
      pub puts : put ≡ puts_of talks
      pub gots : got ≡ gots_of talks

    -- the session's door was served and is spent, and as many requests were put and answers collected as the count says
    pub record HasEnded (spent : D → Type 0) (door : D) (put : List Asked) (got : List Dated) (end : DoorEnd D) : Type 0 where
      pub served : HasServed door put got end.door
      pub over : spent end.door
      pub even : length put ≡ length got
      pub count : end.collected ≡ capped (length put)

    -- with an end the door was served so; else nothing was put
    abbrev pub IsDoorDone : (D → Type 0) → D → List Asked → List Dated → Option (DoorEnd D) → Type 0
    IsDoorDone spent door put got end = MatchOption end (put ≡ []) (λ e. HasEnded spent door put got e)

    -- each session's door was served, by its requests among those served, and their replies
    pub record AreDoorsServed (spent : D → Type 0) (doors : List D) (ends : List (Option (DoorEnd D))) (served : List (Entry Asked Dated)) : Type 0 where
      pub count : length ends ≡ length doors
      pub each : (session : ℕ) (door : D) (end : Option (DoorEnd D)) → slice_get doors session ≡ Some door → slice_get ends session ≡ Some end
          → IsDoorDone spent door (requests_of session served) (replies_of session served) end
