use Rattle.permit_args.specs.declared.plan.PlanFault.TheVariants.{Help, Memory}
use Rattle.permit_cli.proofs.Complaints.{fault_said, memory_said, unprinted}
use Rattle.permit_cli.proofs.telling.without_plan.Goals as goal

pub returns-in-Err-clause-says : goal.returns-in-Err-clause-says
returns-in-Err-clause-says g c =
    fault_said c.args.fault.now (Help c.in-Help.text) _ _ _ c.in-Help.is
    (unprinted c.in-Err.failure _ _ _ c.in-Err.ensures.0 c.complain.ensures.status c.complain.ensures.says)

pub returns-in-Memory-clause-says : goal.returns-in-Memory-clause-says
returns-in-Memory-clause-says g c =
    fault_said c.args.fault.now Memory _ _ _ c.in-Memory.is (memory_said c.memory.result _ _ c.memory.ensures c.complain-in-Memory.ensures.says)
