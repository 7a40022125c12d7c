use Rattle.std.proofs.Common.{◌≡◌, sym, subst, Some, Ok, Err, arith}
use Rattle.std.specs.Io.BufRead.{drop_through}
use Rattle.permit_history.specs.Text.{next_line, Answers}
use Rattle.permit_store.specs.contracts.plain.PlainStoreStore.TheImpl as plain
use Rattle.permit_replay.specs.Holding.{IsBeginning}
use Rattle.permit_replay.specs.Texts.{IsAtFault}
use Rattle.permit_replay.proofs.Lines.{stopped_at, text_more, told_more}
use Rattle.permit_replay.proofs.Reading.{at_fault, some_at}
use Rattle.permit_replay.proofs.text.replay_line.Goals as goal

pub returns-in-Ok-clause-next : goal.returns-in-Ok-clause-next
returns-in-Ok-clause-next g c = λ beginning bytes at.
    let entry = c.in-Ok-Some.entry in
    let said = c.in-Ok-Some.ensures.exact at.left at.is_left in
    let size = rw c.in-Ok-Some.field-0-is at c.in-Ok-Some.ensures.size in (
      entry,
      told_more entry c.in-Ok.next at.told (rw c.in-Ok-Some.field-0-is at said) (rw c.in-Ok-Some.field-0-is at c.in-Ok-Some.ensures.within) c.in-Ok.ensures,
      c.in-Ok-Some.ensures.rest at.left at.is_left,
      omega (arith, text_more at.entries entry, size),
    )

pub returns-in-Ok-Some-clause-stopped : goal.returns-in-Ok-Some-clause-stopped
returns-in-Ok-Some-clause-stopped g c = λ beginning bytes at.
    let said = c.in-Ok-Some.ensures.exact at.left at.is_left in
    stopped_at c.in-Ok-Some.entry c.args.line c.in-Err.why at.told (rw c.in-Ok-Some.field-0-is at said) at.counted c.in-Err.ensures

pub returns-in-Open-clause-next : goal.returns-in-Open-clause-next
returns-in-Open-clause-next g c = λ beginning bytes at.
    let said = c.in-Ok-None.ensures.exact at.left at.is_left in
    let told = at.told in
    (rw c.in-Open.is at told, rw c.in-Ok-None.field-0-is at said)

pub returns-in-Err-Line-clause-stopped : goal.returns-in-Err-Line-clause-stopped
returns-in-Err-Line-clause-stopped g c = λ beginning bytes at.
    let said = c.in-Err-Line.ensures.exact at.left at.is_left in
    let told = at.told in
    let answer = rw c.in-Err-Line.field-0-is at said in
    (at.entries, at.left, c.args.replayed, told.as_far, at.counted, subst (λ f. IsAtFault f at.left) (sym c.in-Err-Line.fault-is) (at_fault c.in-Err-Line.fault at.left answer))
