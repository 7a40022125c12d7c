use Rattle.std.proofs.Common.{◌≡◌, ◌++◌, ℕ, List, Some, length}
use Rattle.permit_http.specs.Stream.{stream}
use Rattle.permit_wire.specs.Conversation.{Exchanges}
use Rattle.permit_wire.proofs.Conversing.{Leads}
use Rattle.permit_hall.specs.Doors.{capped}
use Rattle.permit_hall.specs.Session.{IsSession, IsSamePlace, put_by, got_by}
use Rattle.permit_hall.proofs.doors.serve_connection.Given as goal

abbrev pub invariant-loop : goal.invariant-loop
invariant-loop g l =
    IsSession l.session × IsSamePlace l.fn.session l.session × (length (put_by l.session) ≡ length (got_by l.session))
    × (l.count ≡ capped (length (put_by l.session)))
    × ((x : Exchanges) × (put_by l.session ≡ put_by l.fn.session ++ x.put) × (got_by l.session ≡ got_by l.fn.session ++ x.got))
    × ((bytes : List ℕ) → g.I.Read.remaining l.fn.reader ≡ Some bytes
    → (rest : List ℕ) × (stream l.inbox (g.I.Read.remaining l.reader) ≡ Some rest)
    × Leads put_by got_by l.fn.session bytes (g.O.Write.contents l.fn.writer) l.session rest l.inbox (g.O.Write.contents l.writer))
