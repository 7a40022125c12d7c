-- Bytes that were read after the bytes there.
use Rattle.std.proofs.Common.{append-nil, ◌≡◌, ℕ, Bool, length-append, ◌+◌, ◌≤◌, List, [], ◌∷◌, ◌++◌, length, take, Option, Some, None, refl, sym, ap}
use Rattle.std.proofs.Common.{◌∙◌, arith, append_assoc, subst}
use Rattle.permit_http.specs.Head.{IsOpen}
use Rattle.std.proofs.Math.Seq.{take-append-add}
use Rattle.std.proofs.lemmas.List.{take-append-le, length-take-le}
use Rattle.std.specs.Io.KnownBytes.{prepend_known, Keeps, Consumes}
use borrow.Rule.Slice.PartMut.{put_mid, post_of}
use Rattle.permit_http.specs.Stream.{InboxData, stream, Filled}

pub take-filled : (bytes part : List ℕ) (len n k : ℕ) → len ≤ length bytes → n ≤ length part
    → take (len + n) (put_mid len k bytes part) ≡ take len bytes ++ take n part
take-filled bytes part len n k h j =
    let at : length (take len bytes) ≡ len = length-take-le len bytes h in
    ap (λ x. take (x + n) (take len bytes ++ (part ++ post_of len k bytes))) (sym at)
    ∙ take-append-add (take len bytes) (part ++ post_of len k bytes) n
    ∙ ap (λ x. take len bytes ++ x) (take-append-le n part (post_of len k bytes) j)

pub keeps_stream : (front more : List ℕ) (before after : Option (List ℕ)) → Consumes before after more
    → Keeps (prepend_known front before) (prepend_known (front ++ more) after)
keeps_stream front more None after h = tt
keeps_stream front more (Some xs) None h = absurd h
keeps_stream front more (Some xs) (Some ys) h = append_assoc front more ys ∙ ap (λ x. front ++ x) (sym h)

pub filled_read : (bytes part : List ℕ) (len n k count : ℕ) (closed : Bool) (before after : Option (List ℕ))
    → len ≤ length bytes → n ≤ length part → Consumes before after (take n part)
    → Filled (record { bytes = take len bytes; count = count; closed = closed })
    (record { bytes = take (len + n) (put_mid len k bytes part); count = count; closed = closed }) before after
filled_read bytes part len n k count closed before after h j got =
    rw (take-filled bytes part len n k h j) (record {
      stream = keeps_stream (take len bytes) (take n part) before after got;
      count = refl;
      closed = refl;
      more = take n part;
      grown = refl;
    })

pub keeps_all : (old mid new : Option (List ℕ)) → Keeps old mid → Keeps mid new → Keeps old new
keeps_all None mid new h k = tt
keeps_all (Some xs) None new h k = absurd h
keeps_all (Some xs) (Some ys) None h k = absurd k
keeps_all (Some xs) (Some ys) (Some zs) h k = k ∙ h

pub filled_on : (old mid new : InboxData) (before between after : Option (List ℕ))
    → Filled old mid before between → Filled mid new between after → Filled old new before after
filled_on old mid new before between after h k = record {
  stream = keeps_all (stream old before) (stream mid between) (stream new after) h.stream k.stream;
  count = k.count ∙ h.count;
  closed = k.closed ∙ h.closed;
  more = h.more ++ k.more;
  grown = k.grown ∙ ap (λ x. x ++ k.more) h.grown ∙ append_assoc old.bytes h.more k.more;
}

pub keeps_same : (known : Option (List ℕ)) → Keeps known known
keeps_same None = tt
keeps_same (Some xs) = refl

pub filled_none : (i : InboxData) (left : Option (List ℕ)) → Filled i i left left
filled_none i left = record { stream = keeps_same (stream i left); count = refl; closed = refl; more = []; grown = sym (append-nil i.bytes) }

pub empty_when : (xs : List ℕ) → length xs ≡ 0 → xs ≡ []
empty_when [] h = refl
empty_when (x ∷ xs) h = absurd (omega (arith, h))

-- where no byte came, the bytes are as they were
pub filled_nothing : (old new : InboxData) (before after : Option (List ℕ)) → Filled old new before after
    → length new.bytes ≡ length old.bytes → new.bytes ≡ old.bytes
filled_nothing old new before after h e =
    let size = simp length-append at (ap length h.grown) in
    h.grown ∙ ap (λ x. old.bytes ++ x) (empty_when h.more (omega (arith, size, e))) ∙ append-nil old.bytes

-- an inbox that is as it was holds bytes that are as open as they were
pub still : {old new : InboxData} → (IsOpen old.bytes → ⊥) → new ≡ old → IsOpen new.bytes → ⊥
still {old} {new} nope same now = let P : InboxData → Type 0 = λ i. IsOpen i.bytes in nope (subst P same now)
