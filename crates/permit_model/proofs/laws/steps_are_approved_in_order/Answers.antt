-- The laws are lemmas by induction on what was done to a file.
use Rattle.permit_model.proofs.FileLaws.{next_step_at_count, requested_step_next, steps_within, steps_front}
use Rattle.permit_model.proofs.laws.steps_are_approved_in_order.Goals as goal

pub returns-clause-next : goal.returns-clause-next
returns-clause-next c = next_step_at_count

pub returns-clause-pending : goal.returns-clause-pending
returns-clause-pending c = requested_step_next

pub returns-clause-count : goal.returns-clause-count
returns-clause-count c = steps_within

pub returns-clause-front : goal.returns-clause-front
returns-clause-front c = steps_front
