use Rattle.std.proofs.Common.{◌≡◌, refl, Some, arith}
use Rattle.std.specs.Io.BufRead.{drop_through}
use Rattle.permit_replay.proofs.Brought.{one_skipped}
use Rattle.permit_replay.proofs.Reading.{some_at}
use Rattle.permit_replay.proofs.opening.redoing.skip_lines.Goals as goal

pub loop-line-preserved : goal.loop-line-preserved
loop-line-preserved g c = λ bytes entries left e given few.
    let it = c.loop-line.invariant bytes entries left e given few in (
      drop_through 10 it.0,
      some_at (g.Q.Read.remaining c.loop-line.again) (λ bs. g.Q.Read.remaining c.skip_until.new.self ≡ Some (drop_through 10 bs)) it.0 c.in-Ok.ensures.rest it.1,
      one_skipped it.0 entries left c.loop-line._line _ refl (omega (arith, c.loop-line-test.true, few)) it.2,
    )
