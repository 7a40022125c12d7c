use Rattle.std.proofs.Common.{codes, sym}
use Rattle.permit_answer.specs.AnswerText.{answer_data}
use Rattle.permit_answer.proofs.Making.{in_json, made_in_memory, made_of_parts}
use Rattle.permit_answer.proofs.write.make.Goals as goal

pub returns-in-InPlace-clause-text : goal.returns-in-InPlace-clause-text
returns-in-InPlace-clause-text c =
    let placed = rw c.in-InPlace.is at c.in_ok-body.ensures.place in
    made_of_parts (answer_data c.args.answer.now) c.args.close c.answer_status.result (codes "application/json") c.in-InPlace.body c.in_place.result
    c.answer_status.ensures (sym (in_json (answer_data c.args.answer.now) placed.0)) (rw c.in-InPlace.is at c.in_ok-body.ensures.text) c.in_place.ensures

pub returns-in-InMemory-clause-text : goal.returns-in-InMemory-clause-text
returns-in-InMemory-clause-text c =
    made_in_memory c.in_memory.result (answer_data c.args.answer.now) c.args.close c.content_type.result.now c.in-InMemory.body.items
    (rw c.in-InMemory.is at c.in_ok-body.ensures.place) c.content_type.ensures.text (rw c.in-InMemory.is at c.in_ok-body.ensures.text) c.in_memory.ensures
