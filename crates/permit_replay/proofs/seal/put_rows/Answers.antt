use Rattle.std.proofs.Common.{◌≡◌, ◌≤◌, ◌+◌, true, arith}
use Rattle.std.proofs.lemmas.Grind.{common_steps}
use Rattle.permit_base.specs.Limits.{most_records}
use Rattle.permit_replay.specs.Numbered.{has_row}
use Rattle.permit_replay.proofs.SealedTables.{few_rows, row_there}
use Rattle.permit_replay.proofs.seal.put_rows.Goals as goal

pub returns-in_err-put_row-clause-failed : goal.returns-in_err-put_row-clause-failed
returns-in_err-put_row-clause-failed g c = λ clean t h sound most.
    let place = c.loop-place.place in
    let there : has_row c.args.table t (place + 1) ≡ true = row_there t sound c.args.table (place + 1) (omega arith) (omega arith) in
    let few : place + 1 ≤ most_records = omega (arith, few_rows t sound c.args.table) in
    grind (arith, common_steps)
