-- What a message that came whole is on its stream.
use Rattle.std.proofs.Common.{◌≡◌, ℕ, ◌+◌, ◌||◌, nat_le, min, List, drop, Bool, true, false, Option, Some, None, Result, Ok, Err, refl, sym, ap, ◌∙◌}
use Rattle.std.specs.Io.KnownBytes.{prepend_known}
use Rattle.permit_base.specs.declared.request.Asked.{Asked}
use Rattle.permit_http.specs.Stream.{InboxData}
use Rattle.permit_http.specs.Spans.{GivesMessage, message_at}
use Rattle.permit_http.specs.declared.message.MessageSpans.{MessageSpans}
use Rattle.permit_wire.specs.Asked.{asked_in}
use Rattle.permit_wire.specs.Reading.{Reading, Request, Kept, Asks, AskedFrom, LetGo, FaultRead, RequestRead, MeansAsked, ReadsOut, closes_after}
use Rattle.permit_http.specs.declared.fault.Fault.{Fault}
use Rattle.permit_http.specs.declared.fault.Fault.TheVariants.{Head, Version, Length, Large, Route, Caller, Body, Memory}

-- the reading of a whole message that has this meaning
pub reading_of : Result Asked Fault → Bool → List ℕ → Reading
reading_of (Ok asked) closes rest = Request asked closes rest
reading_of (Err fault) closes rest = Kept fault closes rest

-- a whole message was read, and its bytes were let go
abbrev pub WholeRead : List ℕ → InboxData → InboxData → Option (List ℕ) → Result Asked Fault → Type 0
WholeRead bytes old new left meaning =
    (closes : Bool) × (rest : List ℕ) × AskedFrom old.closed bytes (reading_of meaning closes rest) × LetGo old new left closes rest

not_true : (b : Bool) → (b ≡ true → ⊥) → b ≡ false
not_true true h = absurd (h refl)
not_true false h = refl

never : false ≡ true → ⊥
never e = cc

-- a request or a fault of a message that came whole
abbrev pub OutRead : List ℕ → InboxData → InboxData → Option (List ℕ) → Result Asked Fault → Type 0
OutRead bytes old new left (Ok asked) = RequestRead bytes old new left (Ok (Some asked))
OutRead bytes old new left (Err fault) = FaultRead bytes old new left fault

asks_from : (closed : Bool) (bytes rest : List ℕ) (closes : Bool) (meaning : Result Asked Fault) → (closed ≡ true → ⊥)
    → Asks bytes meaning closes rest → AskedFrom closed bytes (reading_of meaning closes rest)
unfolding reading_of
asks_from true bytes rest closes meaning serving h = absurd (serving refl)
asks_from false bytes rest closes (Ok asked) serving h = h
asks_from false bytes rest closes (Err fault) serving h = h

module _ (bytes : List ℕ) (old mid new : InboxData) (left : Option (List ℕ)) (s : MessageSpans)
    (serving : old.closed ≡ true → ⊥) (gives : old.closed ≡ false → GivesMessage bytes mid left s)
    (count : mid.count ≡ old.count) (closed : mid.closed ≡ old.closed) where
  given : (b : Bool) → b ≡ old.closed → GivesMessage bytes mid left s
  given true e = absurd (serving (sym e))
  given false e = gives (sym e)

  pub whole_read : (meaning : Result Asked Fault) → asked_in (message_at mid.bytes s) ≡ meaning
      → ((new.bytes ≡ drop s.body.end mid.bytes) × (new.count ≡ min 100 (mid.count + 1)) × (new.closed ≡ closes_after mid s.closes))
      → WholeRead bytes old new left meaning
  whole_read meaning said out =
      let g : GivesMessage bytes mid left s = given old.closed refl in (
        s.closes,
        g.0,
        asks_from old.closed bytes g.0 s.closes meaning serving (message_at mid.bytes s, g.1, said, refl),
        record {
          behind = ap (λ b. prepend_known b left) out.0 ∙ g.2;
          count = out.1 ∙ ap (λ n. min 100 (n + 1)) count;
          closed = out.2 ∙ ap (λ b. b || s.closes || nat_le 100 (mid.count + 1)) closed ∙ ap (λ n. old.closed || s.closes || nat_le 100 (n + 1)) count;
        },
      )

  -- what reading a whole message out gives on the stream
  pub out_read : (r : Result Asked Fault) → MeansAsked r (asked_in (message_at mid.bytes s)) → ReadsOut mid new s r
      → OutRead bytes old new left r
  unfolding reading_of
  out_read (Ok asked) means out = whole_read (Ok asked) means out
  out_read (Err Memory) means out = let g : GivesMessage bytes mid left s =
      given old.closed refl in (message_at mid.bytes s, g.0, not_true old.closed serving, g.1)
  out_read (Err Route) means out = whole_read (Err Route) means.0 out
  out_read (Err Caller) means out = whole_read (Err Caller) means.0 out
  out_read (Err Body) means out = whole_read (Err Body) means.0 out
  out_read (Err Head) means out = let no : ⊥ = never means.1 in absurd no
  out_read (Err Version) means out = let no : ⊥ = never means.1 in absurd no
  out_read (Err Length) means out = let no : ⊥ = never means.1 in absurd no
  out_read (Err Large) means out = let no : ⊥ = never means.1 in absurd no

-- what was read is not the end
pub is_some : {A E : Type 0} (x : A) (r : Result (Option A) E) → r ≡ Ok (Some x) → r ≡ Ok None → ⊥
is_some x r e f = cc
