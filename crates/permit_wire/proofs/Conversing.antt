-- A connection's servings, one after the other.
use Rattle.std.proofs.Common.{◌≡◌, ◌⊎◌, ℕ, Bool, true, false, List, [], ◌∷◌, ◌++◌, Option, None, Some, inl, inr, refl, sym, ap, ◌∙◌, subst, append_assoc}
use Rattle.std.proofs.lemmas.List.{append-nil, append_cancel_left}
use Rattle.std.specs.Io.KnownBytes.{Keeps}
use Rattle.permit_base.specs.declared.request.Asked.{Asked}
use Rattle.permit_http.specs.Message.{IsUnfinished}
use Rattle.permit_http.specs.Stream.{InboxData, fresh, stream}
use Rattle.permit_http.specs.declared.fault.Fault.{Fault}
use Rattle.permit_http.specs.declared.fault.Fault.TheVariants.{Head, Version, Length, Large, Route, Caller, Body, Memory}
use Rattle.permit_answer.specs.AnswerText.{AnswerData, Faulted}
use Rattle.permit_answer.specs.Outgoing.{WroteAnswer}
use Rattle.permit_wire.specs.Reading as reading
use Rattle.permit_wire.specs.Reading.{AskedFrom, FaultRead, LetGo, is_kept}
use Rattle.permit_wire.specs.Serving.{ServesBy, ServesRequest, ServesFault, is_shut, is_silent}
use Rattle.permit_wire.specs.Conversation.{Exchanges, Takes, none, IsLeft, Conversation, Goes, Ends}
use Rattle.permit_wire.specs.declared.service.Dated.{Dated}
use Rattle.permit_wire.specs.declared.serve.Served.{Served}
use Rattle.permit_wire.specs.declared.serve.Served.TheVariants.{Kept, Closed, Ended, ReadFailed, WriteFailed}

pub false_true : false ≡ true → ⊥
false_true e = cc

-- a connection that isn't shut is kept
pub kept : (served : Served) → is_shut served ≡ false → served ≡ Kept
kept Kept stays = refl
kept Closed stays = let no : ⊥ = false_true (sym stays) in absurd no
kept Ended stays = let no : ⊥ = false_true (sym stays) in absurd no
kept ReadFailed stays = let no : ⊥ = false_true (sym stays) in absurd no
kept WriteFailed stays = let no : ⊥ = false_true (sym stays) in absurd no

-- known bytes that are kept
pub keeps_some : (after : Option (List ℕ)) (bytes : List ℕ) → Keeps (Some bytes) after → after ≡ Some bytes
keeps_some None bytes h = absurd h
keeps_some (Some others) bytes h = ap Some h

-- an answer on a closed connection closes it
pub closes : (answer : AnswerData) (close : Bool) (before after : Option (List ℕ)) → close ≡ true → WroteAnswer answer close before after false → ⊥
closes answer close before after shut (text, inl own, appends) = false_true (own.1 ∙ shut)
closes answer close before after shut (text, inr other, appends) = false_true other.2

module _ (bytes : List ℕ) (old between : InboxData) (left : Option (List ℕ)) where
  -- a whole message with this fault was read, and its bytes were let go
  abbrev KeptRead : Fault → Type 0
  KeptRead fault = (closes : Bool) × (rest : List ℕ) × AskedFrom old.closed bytes (reading.Kept fault closes rest) × LetGo old between left closes rest

  kept_unless : (fault : Fault) → FaultRead bytes old between left fault → (is_kept fault ≡ false → ⊥) → KeptRead fault
  kept_unless Route read unkept = read
  kept_unless Caller read unkept = read
  kept_unless Body read unkept = read
  kept_unless Head read unkept = absurd (unkept refl)
  kept_unless Version read unkept = absurd (unkept refl)
  kept_unless Length read unkept = absurd (unkept refl)
  kept_unless Large read unkept = absurd (unkept refl)
  kept_unless Memory read unkept = absurd (unkept refl)

  -- a fault whose answer kept the connection is one of a whole message
  pub kept_read : (fault : Fault) (before after : Option (List ℕ)) → FaultRead bytes old between left fault → (is_kept fault ≡ false → between.closed ≡ true)
      → WroteAnswer (Faulted fault) between.closed before after false → KeptRead fault
  kept_read fault before after read shut wrote = kept_unless fault read (λ e. closes (Faulted fault) between.closed before after (shut e) wrote)

module _ {T : Type 0} (serves : T → Asked → Dated → T → Type 0) (service service' : T) (bytes : List ℕ) (old new : InboxData)
    (left before after : Option (List ℕ)) where
  -- the bytes after what was answered, where the connection stays open
  pub behind : ServesBy serves service service' bytes old new left before after Kept → (rest : List ℕ) × (stream new left ≡ Some rest)
  behind (inl request) = (request.comes_in.1, ap (λ i. stream i left) request.shut ∙ request.comes_in.3.behind)
  behind (inr fault) =
      let read = kept_read bytes old fault.0.between left fault.0.fault before after fault.0.comes_in fault.0.closes fault.0.goes_out in
      (read.1, ap (λ i. stream i left) fault.0.shut ∙ read.3.behind)

module _ {T : Type 0} (put : T → List Asked) (got : T → List Dated) (first : T) (all : List ℕ) (begun : Option (List ℕ)) where
  -- a conversation from here is one from the start, with what was put till here before it
  abbrev pub Leads : T → List ℕ → InboxData → Option (List ℕ) → Type 0
  Leads now bytes inbox before =
      (after : Option (List ℕ)) (ended : Served) (ahead whole : Exchanges)
      → put now ++ ahead.put ≡ put first ++ whole.put → got now ++ ahead.got ≡ got first ++ whole.got
      → Conversation after ended bytes inbox before ahead → Conversation after ended all fresh begun whole

  pub starts : Leads first all fresh begun
  starts after ended ahead whole puts gots c =
      let same_put = append_cancel_left (put first) ahead.put whole.put puts in
      let same_got = append_cancel_left (got first) ahead.got whole.got gots in
      let same : ahead ≡ whole = λ i. record { put = same_put i; got = same_got i } in
      subst (λ a. Conversation after ended all fresh begun a) same c

  module _ (serves : T → Asked → Dated → T → Type 0)
      (adds : (s t : T) (asked : Asked) (reply : Dated) → serves s asked reply t → (put t ≡ put s ++ asked ∷ []) × (got t ≡ got s ++ reply ∷ []))
      (s t : T) (bytes : List ℕ) (old new : InboxData) (left before after : Option (List ℕ)) (lead : Leads s bytes old before) where
    retold : (served : Served) (behind : Exchanges) (h : ServesRequest serves s t bytes old new left before after served)
        → ServesRequest Takes (record { put = h.asked ∷ behind.put; got = h.dated ∷ behind.got }) behind bytes old new left before after served
    retold served behind h = record {
      asked = h.asked;
      dated = h.dated;
      between = h.between;
      comes_in = h.comes_in;
      done = record { put = refl; got = refl };
      goes_out = h.goes_out;
      shut = h.shut;
    }

    -- what is put from here on, after a request that was served
    put_on : (asked : Asked) (reply : Dated) → serves s asked reply t → (more whole : List Asked) → put t ++ more ≡ put first ++ whole
        → put s ++ asked ∷ more ≡ put first ++ whole
    put_on asked reply h more whole e =
        sym (append_assoc (put s) (asked ∷ []) more) ∙ ap (λ l. l ++ more) (sym (adds s t asked reply h).0) ∙ e

    got_on : (asked : Asked) (reply : Dated) → serves s asked reply t → (more whole : List Dated) → got t ++ more ≡ got first ++ whole
        → got s ++ reply ∷ more ≡ got first ++ whole
    got_on asked reply h more whole e =
        sym (append_assoc (got s) (reply ∷ []) more) ∙ ap (λ l. l ++ more) (sym (adds s t asked reply h).1) ∙ e

    leads_on : (rest : List ℕ) → stream new left ≡ Some rest → ServesBy serves s t bytes old new left before after Kept → Leads t rest new after
    leads_on rest known (inl h) end ended ahead whole puts gots c =
        lead end ended (record { put = h.asked ∷ ahead.put; got = h.dated ∷ ahead.got }) whole
        (put_on h.asked h.dated h.done ahead.put whole.put puts) (got_on h.asked h.dated h.done ahead.got whole.got gots)
        (Goes new left after rest ahead (inl (retold Kept ahead h)) known c)
    leads_on rest known (inr h) end ended ahead whole puts gots c =
        lead end ended ahead whole (ap (λ x. put x ++ ahead.put) (sym h.1) ∙ puts) (ap (λ x. got x ++ ahead.got) (sym h.1) ∙ gots)
        (Goes new left after rest ahead (inr (h.0, refl)) known c)

    -- a serving that keeps the connection leads on to the bytes after it
    pub goes : ServesBy serves s t bytes old new left before after Kept → (rest : List ℕ) × (stream new left ≡ Some rest) × Leads t rest new after
    goes h = let more = behind serves s t bytes old new left before after h in (more.0, more.1, leads_on more.0 more.1 h)

    ends_answered : (ended : Served) → is_shut ended ≡ true
        → ServesRequest serves s t bytes old new left before after ended ⊎ (ServesFault bytes old new left before after ended × (t ≡ s))
        → ((ahead : Exchanges) → ServesRequest Takes ahead none bytes old new left before after ended
        ⊎ (ServesFault bytes old new left before after ended × (none ≡ ahead)) → ServesBy Takes ahead none bytes old new left before after ended)
        → ((ahead : Exchanges) → IsLeft ahead bytes old new left before after ended)
        → (whole : Exchanges) → put t ≡ put first ++ whole.put → got t ≡ got first ++ whole.got → Conversation after ended all fresh begun whole
    ends_answered ended shut (inl h) as_served as_left whole puts gots =
        lead after ended (record { put = h.asked ∷ []; got = h.dated ∷ [] }) whole
        (put_on h.asked h.dated h.done [] whole.put (append-nil (put t) ∙ puts)) (got_on h.asked h.dated h.done [] whole.got (append-nil (got t) ∙ gots))
        (Ends new left shut (as_served (record { put = h.asked ∷ []; got = h.dated ∷ [] }) (inl (retold ended none h)))
        (as_left (record { put = h.asked ∷ []; got = h.dated ∷ [] })))
    ends_answered ended shut (inr h) as_served as_left whole puts gots =
        lead after ended none whole (append-nil (put s) ∙ ap put (sym h.1) ∙ puts) (append-nil (got s) ∙ ap got (sym h.1) ∙ gots)
        (Ends new left shut (as_served none (inr (h.0, refl))) (as_left none))

    -- one that ends it, with what is said of it whatever the reader reports, ends the conversation
    pub ends : (ended : Served) → is_shut ended ≡ true → ServesBy serves s t bytes old new left before after ended
        → (is_silent ended ≡ true → (t ≡ s) × (after ≡ before))
        → (ended ≡ ReadFailed → IsUnfinished new.bytes × (stream new left ≡ Some bytes))
        → (ended ≡ ReadFailed → (more : List ℕ) × (new.bytes ≡ old.bytes ++ more))
        → (whole : Exchanges) → put t ≡ put first ++ whole.put → got t ≡ got first ++ whole.got → Conversation after ended all fresh begun whole
    ends Kept shut h silent unread grown whole puts gots = let no : ⊥ = false_true shut in absurd no
    ends Closed shut h silent unread grown whole puts gots = ends_answered Closed shut h (λ ahead x. x) (λ ahead. tt) whole puts gots
    ends WriteFailed shut h silent unread grown whole puts gots = ends_answered WriteFailed shut h (λ ahead x. x) (λ ahead. tt) whole puts gots
    ends Ended shut h silent unread grown whole puts gots =
        let same = silent refl in
        lead after Ended none whole (append-nil (put s) ∙ ap put (sym same.0) ∙ puts) (append-nil (got s) ∙ ap got (sym same.0) ∙ gots)
        (Ends new left shut h (refl, same.1))
    ends ReadFailed shut h silent unread grown whole puts gots =
        let same = silent refl in let there = unread refl in
        lead after ReadFailed none whole (append-nil (put s) ∙ ap put (sym same.0) ∙ puts) (append-nil (got s) ∙ ap got (sym same.0) ∙ gots)
        (Ends new left shut h (refl, same.1, there.0, there.1, grown refl))
