use Rattle.std.proofs.Common.{rules, vec_len, arith}
use Rattle.permit_store.specs.contracts.plain.PlainStoreStore.TheImpl as plain
use Rattle.permit_replay.specs.Holding.{IsBeginning}
use Rattle.permit_replay.proofs.Lines.{at_first, at_next}
use Rattle.permit_replay.proofs.Reading.{if_some}
use Rattle.permit_replay.proofs.text.replay_whole.Goals as goal

pub loop-line-init : goal.loop-line-init
loop-line-init g c = λ bytes e. at_first plain.view-value.it c.args.beginning e

pub loop-line-preserved : goal.loop-line-preserved
loop-line-preserved g c = λ bytes e.
    let at = c.loop-line.invariant bytes e in
    let on = c.in_ok-next.ensures.next c.args.beginning bytes at in
    at_next (g.R.Read.remaining c.replay_line.new.source) (vec_len c.replay_line.new.room) c.in-Line.next at (rw c.in-Line.is at on)

pub returns-in_err-next-clause-stopped : goal.returns-in_err-next-clause-stopped
returns-in_err-next-clause-stopped g c = if_some (g.R.Read.remaining c.args.source.now) _
    (λ bytes e. let stopped = c.in_err-next.ensures.stopped c.args.beginning bytes (c.loop-line.invariant bytes e) in search rules)

pub returns-in-End-clause-told : goal.returns-in-End-clause-told
returns-in-End-clause-told g c = if_some (g.R.Read.remaining c.args.source.now) _
    (λ bytes e.
    let at = c.loop-line.invariant bytes e in
    let on = c.in_ok-next.ensures.next c.args.beginning bytes at in
    let end = rw c.in-End.is at on in record { entries = at.entries; left = at.left; told = end.0; end = end.1 })

pub returns-clause-stopped : goal.returns-clause-stopped
returns-clause-stopped g c = if_some (g.R.Read.remaining c.args.source.now) _
    (λ bytes e.
    let at = c.loop-line.invariant bytes e in
    let told = at.told in (at.entries, at.left, c.loop-line.replayed, told.as_far, omega (arith, at.counted, c.loop-line-test.false)))
