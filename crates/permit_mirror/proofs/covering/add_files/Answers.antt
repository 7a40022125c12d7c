use Rattle.std.proofs.Common.{arith}
use Rattle.permit_mirror.proofs.Loaded.{there_next, widens_on}
use Rattle.permit_mirror.proofs.covering.add_files.Goals as goal

pub loop-place-preserved : goal.loop-place-preserved
loop-place-preserved g c =
    let was = c.loop-place.invariant in
    let next = c.in_ok-add_file.ensures in
    record {
      kept = λ t h. next.kept t (was.kept t h);
      widened = widens_on c.args.index.now c.loop-place.index c.add_file.new.index was.widened next.widened;
      there = λ t h. there_next c.loop-place.index c.add_file.new.index t c.loop-place.place c.in-Some.id next.widened c.in-Some.ensures.same (was.there t h)
          (next.there t (was.kept t h));
    }

pub returns-clause-there : goal.returns-clause-there
returns-clause-there g c = λ t h n row low high found. c.loop-place.invariant.there t h n row low (omega arith) found
