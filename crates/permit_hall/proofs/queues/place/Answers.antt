use Rattle.std.proofs.Common.{sym}
use Rattle.permit_hall.proofs.EventSteps.{found}
use Rattle.permit_hall.proofs.queues.place.Goals as goal

pub returns-then-pair-number-clause-none : goal.returns-then-pair-number-clause-none
returns-then-pair-number-clause-none g c = found c.args.pairs.now c.loop-i.i c.args.number c.index-pairs-i.result c.loop-i-test.true
    (sym c.index-pairs-i.is) c.if-pair-number.true
