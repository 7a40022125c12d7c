-- What reading the body of a message that was found gives on the stream.
use Rattle.std.proofs.Common.{◌≡◌, ℕ, ◌+◌, ◌-◌, ◌<◌, ◌≤◌, List, ◌++◌, length, drop, Option, Some, refl, sym, ap, ◌∙◌, arith, subst, inr}
use Rattle.std.proofs.lemmas.List.{take-append-le, drop-append-le, drop-drop, length-drop, length-append}
use Rattle.std.specs.Io.KnownBytes.{prepend_known, IsAtEnd}
use Rattle.httparse.specs.Grammar.{RequestHead}
use Rattle.httparse.specs.Spans.{span_bytes}
use Rattle.permit_http.specs.Stream.{InboxData, stream, Filled}
use Rattle.permit_http.specs.Head.{HeadAt}
use Rattle.permit_http.specs.Message.{LacksBody, message_of}
use Rattle.permit_http.specs.Needed.{IsWaiting, ReadsWhile}
use Rattle.permit_http.specs.Spans.{Covers, AreOrdered, GivesMessage}
use Rattle.permit_http.specs.declared.message.MessageSpans.{MessageSpans}
use Rattle.permit_http.proofs.Streams.{split, same_stream, at_end, head-append}
use Rattle.permit_http.proofs.Covered.{covers-append, head_fits}
use Rattle.permit_http.proofs.ReadsMade.{reads_as}

-- the bytes stop inside the body of a head that they cover
lacks_now : (bytes : List ℕ) (s : MessageSpans) (h : RequestHead) → Covers bytes s h → length bytes < s.body.end → LacksBody bytes
lacks_now bytes s h now short =
    let fits = head_fits bytes h s.body.start now.head now.size in (
      h,
      drop s.body.start bytes,
      s.body.end - s.body.start,
      record { head = now.head; length = now.length },
      omega (arith, short, fits, length-drop s.body.start bytes),
    )

-- reads that are made while the body isn't there whole are made after bytes that decide nothing
pub needed : {R : Type 0} (gave : R → List ℕ → R → Type 0) (bytes last : List ℕ) (reader after : R) (s : MessageSpans) (h : RequestHead)
    → Covers bytes s h → AreOrdered (length bytes) s → ReadsWhile (λ bs. length bs < s.body.end) gave bytes reader last after
    → ReadsWhile IsWaiting gave bytes reader last after
needed gave bytes last reader after s h covers ordered made =
    reads_as gave (λ bs. length bs < s.body.end) IsWaiting bytes last reader after
    (λ more short. inr (lacks_now (bytes ++ more) s h (covers-append bytes more s h ordered covers) short)) made

module _ (i k : InboxData) (before after : Option (List ℕ)) (s : MessageSpans) (h : RequestHead)
    (filled : Filled i k before after) (covers : Covers i.bytes s h) (ordered : AreOrdered (length i.bytes) s) where
  covers-now : Covers k.bytes s h
  covers-now = let P : List ℕ → Type 0 = λ bs. Covers bs s h in subst P (sym filled.grown) (covers-append i.bytes filled.more s h ordered covers)

  -- the inbox stops inside the body
  pub stops : length k.bytes < s.body.end → LacksBody k.bytes
  stops short = lacks_now k.bytes s h covers-now short

  module _ (bytes : List ℕ) (known : stream i before ≡ Some bytes) where
    -- the message is there whole, and what comes after it is the rest
    pub whole : s.body.end ≤ length k.bytes → GivesMessage bytes k after s
    whole enough =
        let now : Covers k.bytes s h = covers-now in
        let t = split k after bytes (same_stream i k before after bytes filled known) in
        let left : List ℕ = t.0 in
        let body : List ℕ = drop s.body.start k.bytes in
        let n : ℕ = s.body.end - s.body.start in
        let long : n ≤ length body = omega (arith, enough, length-drop s.body.start k.bytes) in
        let size : n + s.body.start ≡ s.body.end = omega (arith, ordered.body) in
        let P : List ℕ → Type 0 = λ bs. HeadAt bs h (body ++ left) in
        let head : HeadAt bytes h (body ++ left) = subst P (sym t.1) (head-append k.bytes left body h now.head) in
        let behind : drop n (body ++ left) ≡ drop s.body.end k.bytes ++ left =
        drop-append-le n body left long ∙ ap (λ x. x ++ left) (drop-drop n s.body.start k.bytes ∙ ap (λ m. drop m k.bytes) (omega (arith, size))) in (
          drop n (body ++ left),
          (
            h,
            body ++ left,
            n,
            record { head = head; length = now.length },
            omega (arith, long, length-append body left),
            now.said (span_bytes k.bytes s.body) ∙ ap (message_of h) (sym (take-append-le n body left long)),
            refl,
          ),
          ap (prepend_known (drop s.body.end k.bytes)) t.2 ∙ ap Some (sym behind),
        )

    -- the body isn't there whole
    pub lacks_body : length k.bytes < s.body.end → IsAtEnd after → LacksBody bytes
    lacks_body short end = subst LacksBody (sym (at_end k after bytes (same_stream i k before after bytes filled known) end)) (stops short)
