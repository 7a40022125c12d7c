-- Worked examples of answers, computed from what was asked of the office.
use Rattle.std.specs.Prelude.{ℕ, List, false}
use Rattle.permit_base.specs.Actions.{action_of}
use Rattle.permit_model.specs.Examples.{Turn, last_reply, opening}
use Rattle.permit_answer.specs.AnswerText.{AnswerData, Replied, body_text, answer_text}

-- the answer to a turn, after turns of the office in which the examples begin
abbrev pub answer_after : List Turn → Turn → AnswerData
answer_after turns turn = Replied (last_reply turns turn opening) (action_of turn.request) turn.day

-- its text, on a connection that stays open
abbrev pub text_after : List Turn → Turn → List ℕ
text_after turns turn = answer_text (answer_after turns turn) false

abbrev pub body_after : List Turn → Turn → List ℕ
body_after turns turn = body_text (answer_after turns turn)
