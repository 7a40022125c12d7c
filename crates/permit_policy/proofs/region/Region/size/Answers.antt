use Rattle.std.proofs.Math.Nat.{mul-le-mul}
use Rattle.permit_policy.proofs.region.Region.size.Goals as goal

pub returns-clause-within : goal.returns-clause-within
returns-clause-within c =
    mul-le-mul (mul-le-mul c.sets_in.ensures.within c.stages_in.ensures.within) (mul-le-mul c.truths_in.ensures.within c.timings_in.ensures.within)
