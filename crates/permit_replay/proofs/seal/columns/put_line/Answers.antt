use Rattle.permit_replay.proofs.Added.{adds_column}
use Rattle.permit_replay.proofs.seal.columns.put_line.Goals as goal

pub loop-column-preserved : goal.loop-column-preserved
loop-column-preserved c = adds_column _ _ _ _ _ _ _ c.loop-column-test.true c.loop-column.invariant c.put_column.ensures
