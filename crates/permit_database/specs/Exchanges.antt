-- The requests of a serving and of an import, as exchanges.
use Rattle.std.specs.Prelude.{ℕ, List, [], ◌∷◌, map}
use Rattle.permit_base.specs.declared.request.Asked.{Asked}
use Rattle.permit_office.specs.declared.reply.Reply.{Reply}
use Rattle.permit_wire.specs.declared.service.Dated.{Dated}
use Rattle.permit_hall.specs.Runs.{Entry}
use Rattle.permit_recorded.specs.Runs.{Exchange}

-- those that were served, each with its day and its reply
abbrev pub exchanges_of : List (Entry Asked Dated) → List Exchange
exchanges_of served = map (λ (e : Entry Asked Dated). record { asked = e.request; day = e.day; reply = e.reply.reply }) served

-- those that an import made, each with its reply
abbrev pub exchanges : List (Asked × ℕ) → List Reply → List Exchange
exchanges [] replies = []
exchanges (request ∷ requests) [] = []
exchanges (request ∷ requests) (reply ∷ replies) = record { asked = request.0; day = request.1; reply = reply } ∷ exchanges requests replies
