use Rattle.std.proofs.Common.{arith}
use Rattle.permit_http.proofs.Heads.{lacks, never_long, never_refused, found}
use Rattle.permit_http.proofs.head.look_at.Goals as goal

pub returns-in-Ok-Complete : goal.returns-in-Ok-Complete
returns-in-Ok-Complete c =
    let is = rw (c.in-Ok-Complete.field-0-is, c.front.ensures) at c.in-Ok-Complete.ensures.complete in
    let within = rw (c.in-Ok-Complete.field-0-is, c.front.ensures) at c.in-Ok-Complete.ensures.within in (
      is.0,
      found c.args.bytes.now c.parse_request.new.headers c.in-Ok-Complete.spans is.0
          (omega (arith, c.parse_request.auto.headers, c.told-headers)) is.1 within,
    )

pub returns-then-bytes-lt-HEAD_LIMIT : goal.returns-then-bytes-lt-HEAD_LIMIT
returns-then-bytes-lt-HEAD_LIMIT c =
    (lacks c.args.bytes.now (rw (c.in-Ok-Partial.field-0-is, c.front.ensures) at c.in-Ok-Partial.ensures.partial), c.if-bytes-lt-HEAD_LIMIT.true)

pub returns-else-bytes-lt-HEAD_LIMIT : goal.returns-else-bytes-lt-HEAD_LIMIT
returns-else-bytes-lt-HEAD_LIMIT c =
    never_long c.args.bytes.now (rw (c.in-Ok-Partial.field-0-is, c.front.ensures) at c.in-Ok-Partial.ensures.partial) c.if-bytes-lt-HEAD_LIMIT.false

pub returns-in-Err : goal.returns-in-Err
returns-in-Err c = never_refused c.args.bytes.now (rw (c.front.ensures, c.told-headers) at c.in-Err.ensures.no_room)
