use Rattle.std.proofs.Common.{arith, ◌∙◌, ◌+◌, sym}
use Rattle.permit_policy.specs.PolicyText.{has_bad_list}
use Rattle.permit_policy.proofs.Passes.{place_here, place_next, part_at, part_more, refusal_at}
use Rattle.permit_policy.proofs.text.read_rules.Goals as goal

pub returns-in-Err-clause-err : goal.returns-in-Err-clause-err
returns-in-Err-clause-err c =
    refusal_at _ _ (c.loop-i.i + 1) c.in-Err.code _ c.at.ensures c.in-Err.ensures.err
    (λ bad. sym c.loop-i.invariant.found
    ∙ place_here has_bad_list c.args.tables.now c.loop-i.i c.index-tables-i.result c.loop-i-test.true c.index-tables-i.is bad)

pub loop-i-preserved : goal.loop-i-preserved
loop-i-preserved c = grind (arith, part_at, place_next, part_more)
