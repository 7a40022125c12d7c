use Rattle.std.proofs.Common.{true}
use Rattle.permit_answer.specs.AnswerText.{answer_text}
use Rattle.permit_answer.proofs.Making.{made_in_place}
use Rattle.permit_answer.proofs.write.store_refusal.Goals as goal

pub returns : goal.returns
unfolding answer_text
returns c = made_in_place _ _ _ _ true _ c.fault_status.ensures c.fault_body-body.ensures.text c.in_place.ensures
