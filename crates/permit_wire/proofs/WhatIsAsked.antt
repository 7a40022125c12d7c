-- The requests that a conversation puts are those that its bytes ask.
use Rattle.std.proofs.Common.{◌≡◌, ℕ, suc, Bool, true, false, List, [], ◌∷◌, length, Option, Some, Ok, Err, inl, inr, refl, sym, ap, ◌∙◌, subst}
use Rattle.std.specs.Prelude.{unwrap_or}
use Rattle.permit_http.specs.Stream.{InboxData, fresh, stream}
use Rattle.permit_wire.specs.Conversation.{Exchanges, Takes, none, IsLeft, Conversation, Goes, Ends}
use Rattle.permit_wire.specs.Reading.{Reading, Nothing, Request, Kept, Asks, AskedFrom}
use Rattle.permit_wire.specs.Requests.{ServesWhatIsAsked}
use Rattle.permit_wire.specs.Serving.{ServesBy, ServesRequest, ServesFault, is_shut}
use Rattle.permit_wire.specs.declared.serve.Served.{Served}
use Rattle.permit_wire.specs.declared.serve.Served.TheVariants as served
use Rattle.permit_wire.proofs.Conversing.{kept_read, false_true}

-- on an open connection bytes ask what they ask
opened : (closed : Bool) (bytes : List ℕ) (reading : Reading) → closed ≡ false → AskedFrom closed bytes reading → AskedFrom false bytes reading
opened false bytes reading is h = h
opened true bytes reading is h = let no : ⊥ = false_true (sym is) in absurd no

same_rest : (rest behind : List ℕ) (left right : Option (List ℕ)) → left ≡ right → left ≡ Some rest → right ≡ Some behind → rest ≡ behind
same_rest rest behind left right same first second = ap (λ o. unwrap_or o []) (sym first ∙ same ∙ second)

-- nothing more was put
nothing_put : (bytes : List ℕ) (exchanges : Exchanges) (how : Served) → exchanges ≡ none → (how ≡ served.Ended → bytes ≡ [])
    → ServesWhatIsAsked bytes exchanges how
nothing_put bytes exchanges how is all = record {
  meanings = [];
  rest = bytes;
  asked = refl;
  put = ap (λ x. x.put) is;
  answered = ap (λ x. length x.got) is ∙ sym (ap (λ x. length x.put) is);
  all = all;
}

module _ (bytes : List ℕ) (old new : InboxData) (left before after : Option (List ℕ)) (is_open : old.closed ≡ false) where
  module _ (ended : Served) (exchanges : Exchanges) where
    -- a request in front of what follows
    request_first : (how : Served) (behind : Exchanges) (rest : List ℕ) (h : ServesRequest Takes exchanges behind bytes old new left before after how)
        → h.comes_in.1 ≡ rest → ServesWhatIsAsked rest behind ended → ServesWhatIsAsked bytes exchanges ended
    request_first how behind rest h same others = record {
      meanings = Ok h.asked ∷ others.meanings;
      rest = others.rest;
      asked = (
        h.comes_in.0,
        rest,
        subst (λ r. Asks bytes (Ok h.asked) h.comes_in.0 r) same (opened old.closed bytes (Request h.asked h.comes_in.0 h.comes_in.1) is_open h.comes_in.2),
        others.asked,
      );
      put = h.done.put ∙ ap (λ l. h.asked ∷ l) others.put;
      answered = ap length h.done.got ∙ ap suc others.answered ∙ sym (ap length h.done.put);
      all = others.all;
    }

    -- a fault in front of what follows
    fault_first : (behind : Exchanges) (rest : List ℕ) → stream new left ≡ Some rest → ServesFault bytes old new left before after served.Kept
        → behind ≡ exchanges → ServesWhatIsAsked rest behind ended → ServesWhatIsAsked bytes exchanges ended
    fault_first behind rest known h same others =
        let read = kept_read bytes old h.between left h.fault before after h.comes_in h.closes h.goes_out in
        let asked = opened old.closed bytes (Kept h.fault read.0 read.1) is_open read.2 in
        let as_known = same_rest read.1 rest (stream h.between left) (stream new left) (sym (ap (λ i. stream i left) h.shut)) read.3.behind known in
        record {
          meanings = Err h.fault ∷ others.meanings;
          rest = others.rest;
          asked = (read.0, rest, subst (λ r. Asks bytes (Err h.fault) read.0 r) as_known asked, others.asked);
          put = ap (λ x. x.put) (sym same) ∙ others.put;
          answered = ap (λ x. length x.got) (sym same) ∙ others.answered ∙ ap (λ x. length x.put) same;
          all = others.all;
        }

  -- what ends the connection
  at_end : (ended : Served) (exchanges : Exchanges) → is_shut ended ≡ true → ServesBy Takes exchanges none bytes old new left before after ended
      → IsLeft exchanges bytes old new left before after ended → ServesWhatIsAsked bytes exchanges ended
  at_end served.Kept exchanges shut h is_left = let no : ⊥ = false_true shut in absurd no
  at_end served.Closed exchanges shut (inl h) is_left =
      request_first served.Closed exchanges served.Closed none h.comes_in.1 h refl (nothing_put h.comes_in.1 none served.Closed refl (λ e. cc))
  at_end served.Closed exchanges shut (inr h) is_left = nothing_put bytes exchanges served.Closed (sym h.1) (λ e. cc)
  at_end served.WriteFailed exchanges shut (inl h) is_left =
      request_first served.WriteFailed exchanges served.WriteFailed none h.comes_in.1 h refl (nothing_put h.comes_in.1 none served.WriteFailed refl (λ e. cc))
  at_end served.WriteFailed exchanges shut (inr h) is_left = nothing_put bytes exchanges served.WriteFailed (sym h.1) (λ e. cc)
  at_end served.Ended exchanges shut h is_left = nothing_put bytes exchanges served.Ended is_left.0 (λ e. opened old.closed bytes Nothing is_open h)
  at_end served.ReadFailed exchanges shut h is_left = nothing_put bytes exchanges served.ReadFailed is_left.0 (λ e. cc)

asked_along : (after : Option (List ℕ)) (ended : Served) {bytes : List ℕ} {old : InboxData} {before : Option (List ℕ)} {exchanges : Exchanges}
    → old.closed ≡ false → Conversation after ended bytes old before exchanges → ServesWhatIsAsked bytes exchanges ended
asked_along after ended {bytes} {old} {before} {exchanges} is_open (Goes new left between rest behind (inl h) known c) =
    request_first bytes old new left before between is_open ended exchanges served.Kept behind rest h
    (same_rest h.comes_in.1 rest (stream h.between left) (stream new left) (sym (ap (λ i. stream i left) h.shut)) h.comes_in.3.behind known)
    (asked_along after ended (ap (λ i. i.closed) h.shut) c)
asked_along after ended {bytes} {old} {before} {exchanges} is_open (Goes new left between rest behind (inr h) known c) =
    fault_first bytes old new left before between is_open ended exchanges behind rest known h.0 h.1
    (asked_along after ended (ap (λ i. i.closed) h.0.shut) c)
asked_along after ended {bytes} {old} {before} {exchanges} is_open (Ends new left shut h is_left) =
    at_end bytes old new left before after is_open ended exchanges shut h is_left

pub serves_what_is_asked : (after : Option (List ℕ)) (ended : Served) (bytes : List ℕ) (before : Option (List ℕ)) (exchanges : Exchanges)
    → Conversation after ended bytes fresh before exchanges → ServesWhatIsAsked bytes exchanges ended
serves_what_is_asked after ended bytes before exchanges c = asked_along after ended refl c
