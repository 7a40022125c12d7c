-- What comes of a connection: what its bytes ask is served, one request or fault after the other, until it ends.
use Rattle.std.specs.Prelude.{◌≡◌, ℕ, true, List, [], ◌∷◌, ◌++◌, Option, Some}
use Rattle.permit_base.specs.declared.request.Asked.{Asked}
use Rattle.permit_http.specs.Message.{IsUnfinished}
use Rattle.permit_http.specs.Stream.{InboxData, stream}
use Rattle.permit_wire.specs.Serving.{ServesBy, is_shut}
use Rattle.permit_wire.specs.declared.service.Dated.{Dated}
use Rattle.permit_wire.specs.declared.serve.Served.{Served}
use Rattle.permit_wire.specs.declared.serve.Served.TheVariants.{Kept, Ended, ReadFailed}

-- the requests that a connection puts from here on, and the replies to them, one for one
pub record Exchanges : Type 0 where
  pub put : List Asked
  pub got : List Dated

-- the first of them is this request with this reply, and the others come after it
pub record Takes (ahead : Exchanges) (asked : Asked) (reply : Dated) (behind : Exchanges) : Type 0 where
  pub put : ahead.put ≡ asked ∷ behind.put
  pub got : ahead.got ≡ reply ∷ behind.got

-- nothing was put
abbrev pub none : Exchanges
none = record { put = []; got = [] }

-- Where the connection ended without an answer, nothing was put or written. Where reading failed, no byte is lost, and
-- those in the inbox begin no whole request.
abbrev pub IsLeft : Exchanges → List ℕ → InboxData → InboxData → Option (List ℕ) → Option (List ℕ) → Option (List ℕ) → Served → Type 0
IsLeft ahead bytes old new left before after Ended = (ahead ≡ none) × (after ≡ before)
IsLeft ahead bytes old new left before after ReadFailed =
    (ahead ≡ none) × (after ≡ before) × IsUnfinished new.bytes × (stream new left ≡ Some bytes)
    × ((more : List ℕ) × (new.bytes ≡ old.bytes ++ more))
IsLeft ahead bytes old new left before after _ = Unit {0}

-- With these bytes to come and this inbox, these requests are put, the writer goes from what it held before to what it
-- holds after, and the connection ends so.
pub data Conversation (after : Option (List ℕ)) (ended : Served) : List ℕ → InboxData → Option (List ℕ) → Exchanges → Type 0 where
  -- an answer goes out that keeps the connection, and the bytes after what it answers are served in the same way
  Goes : {bytes : List ℕ} {old : InboxData} {before : Option (List ℕ)} {ahead : Exchanges} (new : InboxData) (left between : Option (List ℕ))
      (rest : List ℕ) (behind : Exchanges)
      → ServesBy Takes ahead behind bytes old new left before between Kept → stream new left ≡ Some rest
      → Conversation after ended rest new between behind → Conversation after ended bytes old before ahead
  -- what ends it: an answer that closes, a writer or a reader that fails, or the end of the bytes
  Ends : {bytes : List ℕ} {old : InboxData} {before : Option (List ℕ)} {ahead : Exchanges} (new : InboxData) (left : Option (List ℕ))
      → is_shut ended ≡ true → ServesBy Takes ahead none bytes old new left before after ended
      → IsLeft ahead bytes old new left before after ended → Conversation after ended bytes old before ahead
