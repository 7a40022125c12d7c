-- What a conversation writes is the texts of its answers.
use Rattle.std.proofs.Common.{◌≡◌, ℕ, true, false, List, [], ◌∷◌, Option, inl, inr, refl, sym, ap, ◌∙◌}
use Rattle.permit_http.specs.Stream.{InboxData}
use Rattle.permit_wire.specs.Conversation.{Exchanges, Takes, none, IsLeft, Conversation, Goes, Ends}
use Rattle.permit_wire.specs.Serving.{ServesBy, is_shut}
use Rattle.permit_wire.specs.Written.{ByReply, OfFault, WritesWhatIsAnswered}
use Rattle.permit_wire.specs.declared.serve.Served.{Served}
use Rattle.permit_wire.specs.declared.serve.Served.TheVariants as served
use Rattle.permit_wire.proofs.Conversing.{false_true}

module _ (bytes : List ℕ) (old new : InboxData) (left before after : Option (List ℕ)) (exchanges : Exchanges) where
  at_end : (ends : Served) → is_shut ends ≡ true → ServesBy Takes exchanges none bytes old new left before after ends
      → IsLeft exchanges bytes old new left before after ends → WritesWhatIsAnswered before after exchanges ends
  at_end served.Kept shut h is_left = let no : ⊥ = false_true shut in absurd no
  at_end served.Closed shut (inl h) is_left = record {
    answered = ByReply h.asked h.dated ∷ [];
    exchanged = λ i. record { put = h.done.put i; got = h.done.got i };
    written = (h.between.closed, inr (true, after, h.goes_out, refl));
  }
  at_end served.Closed shut (inr h) is_left = record {
    answered = OfFault h.0.fault ∷ [];
    exchanged = sym h.1;
    written = (h.0.between.closed, inr (true, after, h.0.goes_out, refl));
  }
  at_end served.WriteFailed shut (inl h) is_left = record {
    answered = ByReply h.asked h.dated ∷ [];
    exchanged = λ i. record { put = h.done.put i; got = h.done.got i };
    written = (h.between.closed, inl (refl, refl, h.goes_out));
  }
  at_end served.WriteFailed shut (inr h) is_left = record {
    answered = OfFault h.0.fault ∷ [];
    exchanged = sym h.1;
    written = (h.0.between.closed, inl (refl, refl, h.0.goes_out));
  }
  at_end served.Ended shut h is_left = record { answered = []; exchanged = is_left.0; written = is_left.1 }
  at_end served.ReadFailed shut h is_left = record { answered = []; exchanged = is_left.0; written = is_left.1 }

pub writes_what_is_answered : (after : Option (List ℕ)) (ends : Served) {bytes : List ℕ} {old : InboxData} {before : Option (List ℕ)} {exchanges : Exchanges}
    → Conversation after ends bytes old before exchanges → WritesWhatIsAnswered before after exchanges ends
writes_what_is_answered after ends (Goes new left between rest behind (inl h) known c) =
    let more = writes_what_is_answered after ends c in record {
      answered = ByReply h.asked h.dated ∷ more.answered;
      exchanged = λ i. record {
        put = (h.done.put ∙ ap (λ x. h.asked ∷ x.put) more.exchanged) i;
        got = (h.done.got ∙ ap (λ x. h.dated ∷ x.got) more.exchanged) i;
      };
      written = (h.between.closed, inr (false, between, h.goes_out, more.written));
    }
writes_what_is_answered after ends (Goes new left between rest behind (inr h) known c) =
    let more = writes_what_is_answered after ends c in record {
      answered = OfFault h.0.fault ∷ more.answered;
      exchanged = sym h.1 ∙ more.exchanged;
      written = (h.0.between.closed, inr (false, between, h.0.goes_out, more.written));
    }
writes_what_is_answered after ends {bytes} {old} {before} {exchanges} (Ends new left shut h is_left) =
    at_end bytes old new left before after exchanges ends shut h is_left
