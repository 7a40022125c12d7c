use Rattle.std.proofs.Common.{add-one, arith}
use Rattle.permit_model.specs.Tables.{Paper}
use Rattle.permit_store.specs.Changes.{closed_by}
use Rattle.permit_store.proofs.Lists.{turn_step}
use Rattle.permit_store.proofs.plain.papers.close_paper.Goals as goal

pub loop-place-preserved : goal.loop-place-preserved
loop-place-preserved c =
    let f : Paper → Paper = closed_by c.args.file c.args.number in
    let i = c.loop-place._place in
    record {
      end = c.loop-place.invariant.end;
      turned = rw (add-one, c.turn.ensures, c.close_first.ensures, c.loop-place.invariant.turned)
          (turn_step f c.args.papers.now i (omega (arith, c.loop-place-test.true, c.loop-place.invariant.end)));
    }
