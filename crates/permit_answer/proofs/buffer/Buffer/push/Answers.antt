use Rattle.permit_answer.proofs.Buffers.{pushed, kept}
use Rattle.permit_answer.proofs.buffer.Buffer.push.Goals as goal

pub returns-then-self-lt-ROOM : goal.returns-then-self-lt-ROOM
returns-then-self-lt-ROOM c =
    rw (← c.self.view_is) (pushed c.self.inside.bytes c.self.inside.len c.args.byte c.self.told c.if-self-lt-ROOM.true)

pub returns-else-self-lt-ROOM : goal.returns-else-self-lt-ROOM
returns-else-self-lt-ROOM c =
    rw (← c.self.view_is) (kept c.self.inside.bytes c.self.inside.len c.args.byte c.self.told c.self.invariant c.if-self-lt-ROOM.false)
