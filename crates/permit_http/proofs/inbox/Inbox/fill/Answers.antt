use Rattle.std.proofs.Common.{arith, take}
use Rattle.permit_http.proofs.Filling.{filled_read, take-filled}
use Rattle.permit_http.proofs.inbox.Inbox.fill.Goals as goal

pub returns-clause-filled : goal.returns-clause-filled
returns-clause-filled g c =
    rw (← c.self.view_is) (filled_read c.self.inside.bytes c.read_once.new.buf c.self.inside.len c.in_ok-read.read _ c.self.inside.count c.self.inside.closed _ _
    (omega (arith, c.self.told, c.self.invariant)) c.in_ok-read.ensures.bound.0 c.in_ok-read.ensures.bytes.0)

pub returns-clause-once : goal.returns-clause-once
returns-clause-once g c =
    rw (← c.self.view_is) (
      take c.in_ok-read.read c.read_once.new.buf,
      take-filled c.self.inside.bytes c.read_once.new.buf c.self.inside.len c.in_ok-read.read _
          (omega (arith, c.self.told, c.self.invariant)) c.in_ok-read.ensures.bound.0,
      c.in_ok-read.ensures.gave,
    )
