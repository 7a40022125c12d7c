use Rattle.std.proofs.Common.{◌∙◌}
use Rattle.permit_policy.proofs.Fitting.{wider_fits, within_mask}
use Rattle.permit_policy.proofs.patterns.Pattern.wider.Goals as goal

pub returns-then-sets-mask-eq0-clause-wider : goal.returns-then-sets-mask-eq0-clause-wider
returns-then-sets-mask-eq0-clause-wider c = λ set e. rw (c.without.ensures, c.without-2.ensures) (wider_fits c.args.self.now c.args.relation set e)

pub returns-then-sets-mask-eq0-clause-within : goal.returns-then-sets-mask-eq0-clause-within
returns-then-sets-mask-eq0-clause-within c = λ own set e. within_mask c.sets.result c.args.mask set c.ranges.mask.fits c.if-sets-mask-eq0.true (c.sets.ensures set ∙ e)
