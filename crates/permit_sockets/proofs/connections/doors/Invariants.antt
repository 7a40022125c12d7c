use Rattle.std.proofs.Common.{◌≡◌, length}
use Rattle.std.specs.Prelude.{All}
use Rattle.permit_sockets.specs.Taking.{IsNew}
use Rattle.permit_sockets.proofs.connections.doors.Given as goal

abbrev pub invariant-loop-worker : goal.invariant-loop-worker
invariant-loop-worker g l = (length l.doors.items ≡ l.worker) × All (λ d. IsNew l.fn.connections l.fn.address d) l.doors.items
