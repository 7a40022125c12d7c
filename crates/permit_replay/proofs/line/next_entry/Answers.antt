use Rattle.std.proofs.Common.{rules, arith}
use Rattle.permit_history.proofs.LineByLine.{next_line_is}
use Rattle.permit_replay.proofs.Reading.{some_at}
use Rattle.permit_replay.proofs.line.next_entry.Goals as goal

pub returns-in-Ok-clause-exact : goal.returns-in-Ok-clause-exact
returns-in-Ok-clause-exact g c = λ bytes e.
    let read = some_at (g.R.Read.remaining c.args.source.now) _ bytes c.in-Ok.ensures.bytes e in grind (arith, next_line_is)

pub returns-in-Ok-clause-rest : goal.returns-in-Ok-clause-rest
returns-in-Ok-clause-rest g c = λ bytes e.
    let rest = some_at (g.R.Read.remaining c.args.source.now) _ bytes c.in-Ok.ensures.rest e in search rules
