-- The file's history is a script after the opening.
use Rattle.permit_model.specs.Examples.{opening, far_turns}
use Rattle.permit_model.proofs.Scripts.{script_keeps, opening_is}
use Rattle.permit_model.proofs.applications.limits_of_text_and_deadline.Goals as goal

pub returns-clause-history : goal.returns-clause-history
returns-clause-history c = script_keeps far_turns opening opening_is
