-- What an answer unfolds to compute the text of an answer.
use Rattle.std.specs.Prelude.{⊤}
use Rattle.std.specs.Fmt.{digits}
use Rattle.serde_json.proofs.OnLiterals.{serde_json_on_literals}
use Rattle.permit_answer.specs.AnswerText.{answer_text}

unfoldable pub text_on_literals : ⊤
unfolding digits serde_json_on_literals answer_text
text_on_literals = tt
