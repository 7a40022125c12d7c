-- From the bytes in an inbox to its stream.
use Rattle.std.proofs.Common.{◌≡◌, ℕ, List, ◌++◌, Option, Some, None, refl, sym, ap, ◌∙◌, append_assoc, append-nil, subst, arith}
use Rattle.std.proofs.lemmas.List.{take-append-le, drop-append-le, length-append}
use Rattle.std.specs.Io.KnownBytes.{Keeps, IsAtEnd}
use Rattle.httparse.specs.Grammar.{RequestHead}
use Rattle.httparse.proofs.GrammarLemmas.{ReadsRequest-append}
use Rattle.permit_http.specs.Stream.{InboxData, stream, Filled}
use Rattle.permit_http.specs.Head.{HeadAt, NeverHasHead}
use Rattle.permit_http.specs.Message.{MessageData, IsMessage, HasFault, message_of}
use Rattle.permit_http.specs.declared.fault.Fault.{Fault}

pub head-append : (bytes more after : List ℕ) (h : RequestHead) → HeadAt bytes h after → HeadAt (bytes ++ more) h (after ++ more)
head-append bytes more after h x = record { reads = ReadsRequest-append bytes h after more x.reads; short = x.short; few = x.few }

pub never-append : (bytes more : List ℕ) → NeverHasHead bytes → NeverHasHead (bytes ++ more)
never-append bytes more nope extra h rest x = nope (more ++ extra) h rest (rw (← append_assoc) x)

-- a whole message stays in front of what comes after it
pub message-append : (bytes rest more : List ℕ) (m : MessageData) → IsMessage bytes m rest → IsMessage (bytes ++ more) m (rest ++ more)
message-append bytes rest more m x = (
  x.0,
  x.1 ++ more,
  x.2,
  record { head = head-append bytes more x.1 x.0 x.3.head; length = x.3.length },
  omega (arith, x.4, length-append x.1 more),
  x.5 ∙ ap (message_of x.0) (sym (take-append-le x.2 x.1 more x.4)),
  ap (λ r. r ++ more) x.6 ∙ sym (drop-append-le x.2 x.1 more x.4),
)

-- and so does a fault of its head
pub fault-append : (bytes more : List ℕ) (fault : Fault) → HasFault bytes fault → HasFault (bytes ++ more) fault
fault-append bytes more fault x = (x.0, x.1 ++ more, head-append bytes more x.1 x.0 x.2, x.3)

-- the stream is the bytes in the inbox, and then some
pub split : (i : InboxData) (left : Option (List ℕ)) (bytes : List ℕ) → stream i left ≡ Some bytes → (more : List ℕ) × (bytes ≡ i.bytes ++ more)
    × (left ≡ Some more)
split i None bytes e = cc
split i (Some more) bytes e = (more, some_same (sym e), refl)
  where
    some_same : {x y : List ℕ} → Some x ≡ Some y → x ≡ y
    some_same e = cc

-- where bytes went from the reader into the inbox, the stream is the same
pub same_stream : (old new : InboxData) (before after : Option (List ℕ)) (bytes : List ℕ) → Filled old new before after
    → stream old before ≡ Some bytes → stream new after ≡ Some bytes
same_stream old new before after bytes f e = known (stream old before) (stream new after) f.stream e
  where
    known : (a b : Option (List ℕ)) → Keeps a b → a ≡ Some bytes → b ≡ Some bytes
    known None b k e = cc
    known (Some x) None k e = absurd k
    known (Some x) (Some y) k e = ap Some k ∙ e

-- at the end of the input the stream is what the inbox holds
pub at_end : (i : InboxData) (left : Option (List ℕ)) (bytes : List ℕ) → stream i left ≡ Some bytes → IsAtEnd left → bytes ≡ i.bytes
at_end i left bytes e end =
    let s = split i left bytes e in
    let none = rw s.2 at end in
    s.1 ∙ ap (λ x. i.bytes ++ x) none ∙ append-nil i.bytes

-- a head at the front of the inbox is at the front of the stream
pub on_stream : (i : InboxData) (left : Option (List ℕ)) (bytes after : List ℕ) (h : RequestHead)
    → stream i left ≡ Some bytes → HeadAt i.bytes h after → (rest : List ℕ) × HeadAt bytes h rest
on_stream i left bytes after h e x =
    let s = split i left bytes e in
    let P : List ℕ → Type 0 = λ bs. HeadAt bs h (after ++ s.0) in
    (after ++ s.0, subst P (sym s.1) (head-append i.bytes s.0 after h x))
