-- The laws are lemmas by the cases of a step, and by induction on a run.
use Rattle.permit_base.specs.Digests.{digest_of}
use Rattle.permit_model.proofs.Histories.{step_keeps, run_keeps}
use Rattle.permit_model.proofs.laws.steps_keep_histories.Goals as goal

pub returns-clause-by_digest : goal.returns-clause-by_digest
returns-clause-by_digest c = step_keeps

pub returns-clause-by_token : goal.returns-clause-by_token
returns-clause-by_token c = λ policy h asked day is. step_keeps policy h (digest_of asked.token) asked.request day is

pub returns-clause-run : goal.returns-clause-run
returns-clause-run c = run_keeps
