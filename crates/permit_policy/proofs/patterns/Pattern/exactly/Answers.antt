use Rattle.permit_policy.proofs.Fitting.{bit_of, exactly_by}
use Rattle.permit_policy.proofs.patterns.Pattern.exactly.Goals as goal

pub returns : goal.returns
returns c = λ set e.
    exactly_by set _ _ _ _ _ _
    (bit_of c.sets_with.result c.args.number set c.has_bit.result set.applicant e c.has_bit.ensures (c.sets_with.ensures set))
    (bit_of c.sets_with-2.result c.args.number set c.has_bit-2.result set.contractor e c.has_bit-2.ensures (c.sets_with-2.ensures set))
    (bit_of c.sets_with-3.result c.args.number set c.has_bit-3.result set.owner e c.has_bit-3.ensures (c.sets_with-3.ensures set))
    (bit_of c.sets_with-4.result c.args.number set c.has_bit-4.result set.assigned_reviewer e c.has_bit-4.ensures (c.sets_with-4.ensures set))
    (bit_of c.sets_with-5.result c.args.number set c.has_bit-5.result set.assigned_inspector e c.has_bit-5.ensures (c.sets_with-5.ensures set))
    (bit_of c.sets_with-6.result c.args.number set c.has_bit-6.result set.conflict e c.has_bit-6.ensures (c.sets_with-6.ensures set))
