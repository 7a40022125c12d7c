use Rattle.std.proofs.Common.{◌≡◌}
use Rattle.permit_sockets.proofs.connections.ConnectionsDoor.next.Given as goal

abbrev pub invariant-loop : goal.invariant-loop
invariant-loop g l = (l.self.left ≡ l.fn.self.left) × (l.self.stop ≡ l.fn.self.stop) × (l.self.address ≡ l.fn.self.address)
