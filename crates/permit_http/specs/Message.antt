-- What the start of a stream gives: a message and the rest, a fault, or the end.
use Rattle.std.specs.Prelude.{◌≡◌, ℕ, ◌<◌, ◌≤◌, ◌⊎◌, Bool, List, [], length, take, drop, codes, Option, Ok, Err}
use Rattle.httparse.specs.Grammar.{RequestHead}
use Rattle.permit_http.specs.Head.{HeadAt, LacksHead, NeverHasHead, head_limit, judged, pairs_of, values_named, only, closes}
use Rattle.permit_http.specs.declared.fault.Fault.{Fault}
use Rattle.permit_http.specs.declared.fault.Fault.TheVariants.{Head}

-- the parts of a request that the office reads
pub record MessageData : Type 0 where
  pub method : List ℕ
  pub path : List ℕ
  pub authorization : Option (List ℕ)
  pub closes : Bool
  pub body : List ℕ

-- the parts of a head, with a body
abbrev pub message_of : RequestHead → List ℕ → MessageData
message_of h body = record {
  method = h.method;
  path = h.target;
  authorization = only (values_named (codes "authorization") (pairs_of h));
  closes = closes (pairs_of h);
  body = body;
}

-- a head without a fault, the length of its body, and what comes after it
pub record GoodHead (bytes : List ℕ) (h : RequestHead) (after : List ℕ) (n : ℕ) : Type 0 where
  pub head : HeadAt bytes h after
  pub length : judged h.minor (pairs_of h) ≡ Ok n

-- the bytes begin with a whole message, and then comes the rest
abbrev pub IsMessage : List ℕ → MessageData → List ℕ → Type 0
IsMessage bytes m rest =
    (h : RequestHead) × (after : List ℕ) × (n : ℕ) × GoodHead bytes h after n × (n ≤ length after)
    × (m ≡ message_of h (take n after)) × (rest ≡ drop n after)

-- the bytes end inside the body of the first message
abbrev pub LacksBody : List ℕ → Type 0
LacksBody bytes = (h : RequestHead) × (after : List ℕ) × (n : ℕ) × GoodHead bytes h after n × (length after < n)

-- the bytes end inside a head or a body
abbrev pub IsUnfinished : List ℕ → Type 0
IsUnfinished bytes = LacksHead bytes ⊎ LacksBody bytes

-- the bytes begin with a head that has this fault
abbrev pub HasFault : List ℕ → Fault → Type 0
HasFault bytes fault = (h : RequestHead) × (after : List ℕ) × HeadAt bytes h after × (judged h.minor (pairs_of h) ≡ Err fault)

-- The bytes show a fault, whatever comes after them. Either a head is there that has it. Or none is, and the bytes
-- are as many as a head may have, so that none can come.
abbrev pub ShowsFault : List ℕ → Fault → Type 0
ShowsFault bytes fault = HasFault bytes fault ⊎ ((fault ≡ Head) × LacksHead bytes × (head_limit ≤ length bytes))

-- what the start of a stream can give
pub data Incoming : Type 0 where
  nothing : Incoming
  cut : Incoming
  refused : Fault → Incoming
  message : MessageData → List ℕ → Incoming

-- What these bytes give, where no more come. Of bytes at whose front no head can be, both a refusal and a cut are
-- allowed.
abbrev pub IsIncoming : List ℕ → Incoming → Type 0
IsIncoming bytes nothing = bytes ≡ []
IsIncoming bytes cut = ((0 < length bytes) × LacksHead bytes) ⊎ LacksBody bytes
IsIncoming bytes (refused fault) = ((fault ≡ Head) × NeverHasHead bytes) ⊎ HasFault bytes fault
IsIncoming bytes (message m rest) = IsMessage bytes m rest
