use Rattle.permit_policy.proofs.Fitting.{asked_any, asked_not}
use Rattle.permit_policy.proofs.patterns.asked.Goals as goal

pub returns-then-without : goal.returns-then-without
returns-then-without c = λ set. asked_not c.args.with c.args.without c.args.sets set c.if-with.false c.if-without.true c.ranges.sets.fits

pub returns-else-without : goal.returns-else-without
returns-else-without c = λ set. asked_any c.args.with c.args.without c.args.sets set c.if-with.false c.if-without.false
