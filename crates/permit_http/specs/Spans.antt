-- Where the parts of a message are among the bytes of an inbox, and what reading gives.
use Rattle.std.specs.Prelude.{◌≡◌, ℕ, ◌+◌, ◌-◌, ◌<◌, ◌≤◌, List, length, take, drop, Bool, true, false, Option, Some, None, Result, Ok, Err}
use Rattle.std.specs.Option.{option_map, ForSome}
use Rattle.std.specs.Io.KnownBytes.{prepend_known, IsAtEnd}
use Rattle.httparse.specs.Grammar.{RequestHead, print_request}
use Rattle.httparse.specs.Spans.{span_bytes, IsWithin, IsRequestAt, IsRequestWithin}
use Rattle.httparse.specs.declared.spans.HeaderSpan.{HeaderSpan}
use Rattle.httparse.specs.declared.spans.RequestSpans.{RequestSpans}
use Rattle.permit_http.specs.Stream.{InboxData, stream}
use Rattle.permit_http.specs.Head.{HeadAt, IsOpen, NeverHasHead, judged, pairs_of, head_limit, body_limit}
use Rattle.permit_http.specs.Message.{MessageData, message_of, IsIncoming, IsMessage, nothing, cut, refused}
use Rattle.permit_http.specs.declared.error.WireError.{WireError}
use Rattle.permit_http.specs.declared.error.WireError.TheVariants.{ReadFailed, Ended, Fault}
use Rattle.permit_http.specs.declared.head.Look.{Look}
use Rattle.permit_http.specs.declared.head.Look.TheVariants.{Found, Open, Never}
use Rattle.permit_http.specs.declared.message.Sought.{Sought}
use Rattle.permit_http.specs.declared.message.Sought.TheVariants as sought
use Rattle.permit_http.specs.declared.message.Message.{Message}
use Rattle.permit_http.specs.declared.message.MessageSpans.{MessageSpans}

-- a head was found, and the spans cover its parts
pub record IsFound (bytes : List ℕ) (headers : List HeaderSpan) (spans : RequestSpans) (h : RequestHead) : Type 0 where
  pub head : HeadAt bytes h (drop spans.len bytes)
  pub at : IsRequestAt (take head_limit bytes) headers spans h
  pub within : IsRequestWithin (take head_limit bytes) headers spans

-- what a look at the bytes says of a head at their front
abbrev pub LooksAt : List ℕ → List HeaderSpan → Look → Type 0
LooksAt bytes headers (Found spans) = (h : RequestHead) × IsFound bytes headers spans h
LooksAt bytes headers Open = IsOpen bytes
LooksAt bytes headers Never = NeverHasHead bytes

-- what reading for a head gave, with the bytes that are there then and those that the reader has left
abbrev pub GivesHead : List ℕ → Option (List ℕ) → List HeaderSpan → Sought → Type 0
GivesHead bytes left headers (sought.Head spans) = (h : RequestHead) × IsFound bytes headers spans h
GivesHead bytes left headers sought.Refused = NeverHasHead bytes
GivesHead bytes left headers sought.Ended = IsOpen bytes × IsAtEnd left
GivesHead bytes left headers sought.Failed = IsOpen bytes

-- as many bytes as were asked for are there, or the input ended with fewer
abbrev pub GetsTo : ℕ → Bool → List ℕ → Option (List ℕ) → Type 0
GetsTo n true bytes left = n ≤ length bytes
GetsTo n false bytes left = (length bytes < n) × IsAtEnd left

-- the parts of a head lie in the first bytes, and its body begins and ends within the limits
pub record AreOrdered (bound : ℕ) (s : MessageSpans) : Type 0 where
  pub method : IsWithin bound s.method
  pub path : IsWithin bound s.path
  pub authorization : ForSome s.authorization (λ v. IsWithin bound v)
  pub body : s.body.start ≤ s.body.end
  pub limit : s.body.end ≤ head_limit + body_limit

-- a whole message is in the inbox where the spans say
pub record Holds (inbox : InboxData) (s : MessageSpans) : Type 0 where
  pub ordered : AreOrdered (length inbox.bytes) s
  pub whole : s.body.end ≤ length inbox.bytes

-- what the spans cover, with a body
abbrev pub message_with : List ℕ → MessageSpans → List ℕ → MessageData
message_with bytes s body = record {
  method = span_bytes bytes s.method;
  path = span_bytes bytes s.path;
  authorization = option_map (λ v. span_bytes bytes v) s.authorization;
  closes = s.closes;
  body = body;
}

-- what the spans cover
abbrev pub message_at : List ℕ → MessageSpans → MessageData
message_at bytes s = message_with bytes s (span_bytes bytes s.body)

-- the spans cover a head without a fault, and know the place of its body
pub record Covers (bytes : List ℕ) (s : MessageSpans) (h : RequestHead) : Type 0 where
  pub head : HeadAt bytes h (drop s.body.start bytes)
  pub size : s.body.start ≡ length (print_request h)
  pub said : (body : List ℕ) → message_with bytes s body ≡ message_of h body
  pub length : judged h.minor (pairs_of h) ≡ Ok (s.body.end - s.body.start)

-- a message as the parts that it borrows
abbrev pub view_of : Message → MessageData
view_of m = record {
  method = m.method.now;
  path = m.path.now;
  authorization = option_map (λ v. v.now) m.authorization;
  closes = m.closes;
  body = m.body.now;
}

-- a whole message is in the inbox, and the rest of the stream after it
abbrev pub GivesMessage : List ℕ → InboxData → Option (List ℕ) → MessageSpans → Type 0
GivesMessage bytes new left s =
    (rest : List ℕ) × IsMessage bytes (message_at new.bytes s) rest × (prepend_known (drop s.body.end new.bytes) left ≡ Some rest)

-- what reading one message gave on a stream of these bytes
abbrev pub Gives : List ℕ → InboxData → Option (List ℕ) → Result (Option MessageSpans) WireError → Type 0
Gives bytes new left (Ok (Some s)) = GivesMessage bytes new left s
Gives bytes new left (Ok None) = IsIncoming bytes nothing
Gives bytes new left (Err ReadFailed) = Unit {0}
Gives bytes new left (Err Ended) = IsIncoming bytes cut
Gives bytes new left (Err (Fault fault)) = IsIncoming bytes (refused fault)

-- one message is read from an inbox and what its reader has left
abbrev pub ReadsMessage : InboxData → InboxData → Option (List ℕ) → Option (List ℕ) → Result (Option MessageSpans) WireError → Type 0
ReadsMessage old new before after r = (bytes : List ℕ) → stream old before ≡ Some bytes → Gives bytes new after r
