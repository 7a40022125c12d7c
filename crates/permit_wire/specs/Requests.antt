-- Which requests the bytes of a connection ask, and what came of them.
use Rattle.std.specs.Prelude.{◌≡◌, ℕ, Bool, List, [], ◌∷◌, length, Result, Ok, Err}
use Rattle.permit_base.specs.declared.request.Asked.{Asked}
use Rattle.permit_http.specs.declared.fault.Fault.{Fault}
use Rattle.permit_wire.specs.Conversation.{Exchanges}
use Rattle.permit_wire.specs.Reading.{Asks}
use Rattle.permit_wire.specs.declared.serve.Served.{Served}
use Rattle.permit_wire.specs.declared.serve.Served.TheVariants.{Ended}

-- whole messages of these meanings are in front, one after the other, and then the rest
abbrev pub AskInOrder : List ℕ → List (Result Asked Fault) → List ℕ → Type 0
AskInOrder bytes [] rest = rest ≡ bytes
AskInOrder bytes (meaning ∷ meanings) rest = (closes : Bool) × (behind : List ℕ) × Asks bytes meaning closes behind × AskInOrder behind meanings rest

-- the requests among what they mean, without the faults
abbrev pub requests_among : List (Result Asked Fault) → List Asked
requests_among [] = []
requests_among (Ok asked ∷ meanings) = asked ∷ requests_among meanings
requests_among (Err fault ∷ meanings) = requests_among meanings

-- The requests put are those of the messages in front, each with its reply. Where the connection ended by itself, the bytes
-- ask nothing more.
pub record ServesWhatIsAsked (bytes : List ℕ) (exchanges : Exchanges) (ended : Served) : Type 0 where
  pub meanings : List (Result Asked Fault)
  pub rest : List ℕ
  pub asked : AskInOrder bytes meanings rest
  pub put : exchanges.put ≡ requests_among meanings
  pub answered : length exchanges.got ≡ length exchanges.put
  pub all : ended ≡ Ended → rest ≡ []
