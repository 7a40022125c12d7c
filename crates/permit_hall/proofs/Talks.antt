-- A session that serves the connections of a door, one after the other.
use Rattle.std.proofs.Common.{◌≡◌, ◌+◌, ◌-◌, ◌^◌, min, ℕ, Bool, true, false, List, [], ◌∷◌, ◌++◌, length, Option, Some, refl, sym, ap, ◌∙◌, subst, arith, append_assoc, length-append}
use Rattle.std.proofs.lemmas.List.{append-nil}
use Rattle.std.specs.Int.{from_bool}
use Rattle.permit_base.specs.declared.request.Asked.{Asked}
use Rattle.crossbeam_channel.specs.Ends.{sends_on, receives_on}
use Rattle.permit_wire.specs.Conversation.{Exchanges}
use Rattle.permit_wire.specs.Serving.{AsksOnce}
use Rattle.permit_wire.specs.declared.service.Dated.{Dated}
use Rattle.permit_hall.specs.declared.session.Session.{Session}
use Rattle.permit_hall.specs.Doors.{Talk, capped, IsHeld, HasGiven, puts_of, gots_of}
use Rattle.permit_hall.specs.Session.{Asks, IsSamePlace, put_by, got_by}

-- what is counted past the greatest count
capped_more : (n k : ℕ) → min (capped n + k) (2 ^ 64 - 1) ≡ capped (n + k)
capped_more n k = omega arith

module _ (s t : Session Asked Dated) where
  -- what a session has put and collected more, where it was asked
  pub adds : (asked : Asked) (reply : Dated) → Asks s asked reply t → (put_by t ≡ put_by s ++ asked ∷ []) × (got_by t ≡ got_by s ++ reply ∷ [])
  adds asked reply h = (ap (λ v. v.put) h.0.2, ap (λ v. v.got) h.0.3)

  -- the place stays
  place : (b : Bool) → AsksOnce Asks s t b → IsSamePlace s t
  place true h = h.2.1
  place false same = (ap (λ x. x.number) same, ap (λ x. sends_on x.intake) same, ap (λ x. receives_on x.lane) same)

  pub places : (first : Session Asked Dated) (b : Bool) → AsksOnce Asks s t b → IsSamePlace first s → IsSamePlace first t
  places first b h before = let now = place b h in (now.0 ∙ before.0, now.1 ∙ before.1, now.2 ∙ before.2)

  -- with what was put and collected before
  pub more : (first : Session Asked Dated) (b : Bool) → AsksOnce Asks s t b
      → ((x : Exchanges) × (put_by s ≡ put_by first ++ x.put) × (got_by s ≡ got_by first ++ x.got))
      → (x : Exchanges) × (put_by t ≡ put_by first ++ x.put) × (got_by t ≡ got_by first ++ x.got)
  more first true h x =
      let both = adds h.0 h.1 h.2 in (
        record { put = x.0.put ++ h.0 ∷ []; got = x.0.got ++ h.1 ∷ [] },
        both.0 ∙ ap (λ l. l ++ h.0 ∷ []) x.1 ∙ append_assoc (put_by first) x.0.put (h.0 ∷ []),
        both.1 ∙ ap (λ l. l ++ h.1 ∷ []) x.2 ∙ append_assoc (got_by first) x.0.got (h.1 ∷ []),
      )
  more first false same x = (x.0, ap put_by same ∙ x.1, ap got_by same ∙ x.2)

  -- a request more is an answer more, and the count has it unless it is at the greatest
  pub counts : (b : Bool) (n k m : ℕ) → AsksOnce Asks s t b → k ≡ from_bool b → m ≡ min (n + k) (2 ^ 64 - 1)
      → length (put_by s) ≡ length (got_by s) → n ≡ capped (length (put_by s))
      → (length (put_by t) ≡ length (got_by t)) × (m ≡ capped (length (put_by t)))
  counts true n k m h one up even is =
      let both = adds h.0 h.1 h.2 in let p = ap length both.0 in let g = ap length both.1 in
      let more : length (put_by t) ≡ length (put_by s) + 1 = omega (arith, length-append (put_by s) (h.0 ∷ [])) in (
        omega (arith, length-append (put_by s) (h.0 ∷ []), length-append (got_by s) (h.1 ∷ [])),
        up ∙ ap (λ x. min (x + k) (2 ^ 64 - 1)) is ∙ ap (λ x. min (capped (length (put_by s)) + x) (2 ^ 64 - 1)) one
            ∙ capped_more (length (put_by s)) 1 ∙ ap capped (sym more),
      )
  counts false n k m same zero up even is =
      let p = ap (λ x. length (put_by x)) same in let g = ap (λ x. length (got_by x)) same in (
        omega arith,
        up ∙ ap (λ x. min (x + k) (2 ^ 64 - 1)) is ∙ ap (λ x. min (capped (length (put_by s)) + x) (2 ^ 64 - 1)) zero
            ∙ capped_more (length (put_by s)) 0 ∙ ap capped (omega arith),
      )

module _ {In Out D : Type 0} (remaining : In → Option (List ℕ)) (contents : Out → Option (List ℕ)) (gave : D → Option (In × Out) → D → Type 0) where
  -- one connection more
  pub given_more : (talk : Talk In Out) (v : D) (talks : List (Talk In Out)) (d u : D) → HasGiven remaining contents gave d talks u
      → gave u (Some (talk.reader, talk.writer)) v → IsHeld remaining contents talk → HasGiven remaining contents gave d (talks ++ talk ∷ []) v
  given_more talk v [] d u same gives held = (v, subst (λ x. gave x (Some (talk.reader, talk.writer)) v) (sym same) gives, held, refl)
  given_more talk v (t ∷ ts) d u h gives held = (h.0, h.1, h.2, given_more talk v ts h.0 u h.3 gives held)

puts_more : {In Out : Type 0} (talks : List (Talk In Out)) (talk : Talk In Out) → puts_of (talks ++ talk ∷ []) ≡ puts_of talks ++ talk.exchanges.put
puts_more [] talk = append-nil talk.exchanges.put
puts_more (t ∷ ts) talk = ap (λ l. t.exchanges.put ++ l) (puts_more ts talk) ∙ sym (append_assoc t.exchanges.put (puts_of ts) talk.exchanges.put)

gots_more : {In Out : Type 0} (talks : List (Talk In Out)) (talk : Talk In Out) → gots_of (talks ++ talk ∷ []) ≡ gots_of talks ++ talk.exchanges.got
gots_more [] talk = append-nil talk.exchanges.got
gots_more (t ∷ ts) talk = ap (λ l. t.exchanges.got ++ l) (gots_more ts talk) ∙ sym (append_assoc t.exchanges.got (gots_of ts) talk.exchanges.got)

-- and what was put and collected for it
pub puts_then : {In Out : Type 0} (talks : List (Talk In Out)) (talk : Talk In Out) (put put' : List Asked)
    → put ≡ puts_of talks → put' ≡ put ++ talk.exchanges.put → put' ≡ puts_of (talks ++ talk ∷ [])
puts_then talks talk put put' e f = f ∙ ap (λ l. l ++ talk.exchanges.put) e ∙ sym (puts_more talks talk)

pub gots_then : {In Out : Type 0} (talks : List (Talk In Out)) (talk : Talk In Out) (got got' : List Dated)
    → got ≡ gots_of talks → got' ≡ got ++ talk.exchanges.got → got' ≡ gots_of (talks ++ talk ∷ [])
gots_then talks talk got got' e f = f ∙ ap (λ l. l ++ talk.exchanges.got) e ∙ sym (gots_more talks talk)
