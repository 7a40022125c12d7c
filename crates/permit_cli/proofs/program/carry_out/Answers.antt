use Rattle.permit_args.specs.declared.plan.Plan.TheVariants as plan
use Rattle.permit_cli.proofs.Failings.{both_fail, fails_as}
use Rattle.permit_cli.proofs.program.carry_out.Goals as goal

pub returns-in-Serve-clause-fails : goal.returns-in-Serve-clause-fails
returns-in-Serve-clause-fails g c =
    fails_as (plan.Serve c.in-Serve.words) c.args.plan.now _ _ c.serve.result c.in-Serve.is
    (both_fail _ _ c.serve.result c.serve.ensures.fails c.serve.ensures.says)
