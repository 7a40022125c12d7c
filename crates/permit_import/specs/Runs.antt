-- A run of a service, which serves one request after the other.
use Rattle.std.specs.Prelude.{◌≡◌, ℕ, List, [], ◌∷◌}
use Rattle.permit_base.specs.declared.request.Asked.{Asked}
use Rattle.permit_office.specs.declared.reply.Reply.{Reply}
use Rattle.permit_wire.specs.declared.service.Dated.{Dated}

module _ {T : Type 0} (did : T → Asked → ℕ → Dated → T → Type 0) where
  -- the service served the request on its day, and gave this reply
  abbrev pub Gave : Asked × ℕ → Reply → T → T → Type 0
  Gave request reply old new = (dated : Dated) × did old request.0 request.1 dated new × (dated.reply ≡ reply)

  -- it served the requests, one after the other and each once, and gave these replies
  abbrev pub Runs : List (Asked × ℕ) → List Reply → T → T → Type 0
  Runs [] [] old new = new ≡ old
  Runs [] (reply ∷ replies) old new = ⊥
  Runs (request ∷ requests) [] old new = ⊥
  Runs (request ∷ requests) (reply ∷ replies) old new = (between : T) × Gave request reply old between × Runs requests replies between new
