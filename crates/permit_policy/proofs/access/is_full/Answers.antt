use Rattle.permit_policy.proofs.Allowing.{full_next, not_full}
use Rattle.permit_policy.proofs.access.is_full.Goals as goal

pub returns-then-word-clause-more : goal.returns-then-word-clause-more
returns-then-word-clause-more c = not_full c.args.masks.now c.numbered.result c.word.result c.word.ensures c.word.type_inv c.if-word.true

pub loop-number-preserved : goal.loop-number-preserved
loop-number-preserved c = full_next c.args.masks.now c.loop-number.number c.numbered.result c.word.result c.numbered.ensures c.word.ensures c.if-word.false c.loop-number.invariant
