-- What is printed of an answer.
use Rattle.std.proofs.Common.{◌≡◌, ◌∙◌, ℕ, List, Option, Result, inl, refl, subst}
use Rattle.permit_answer.specs.AnswerText.{AnswerData, body_text}
use Rattle.permit_import.specs.declared.refused.Refused.{Refused}
use Rattle.permit_subcommands.specs.Answering.{refusal_of, Shows, Tells}
use Rattle.permit_subcommands.specs.declared.failure.Failure.{Failure}

-- its own body and its own refusal
pub shows_itself : (given : AnswerData) (body made : List ℕ) (refusal : Option Refused) (before after : Option (List ℕ)) (result : Result (Unit {0}) Failure)
    → body ≡ made → made ≡ body_text given → refusal ≡ refusal_of given → Tells body refusal before after result
    → Shows given before after result
shows_itself given body made refusal before after result slice text of tells =
    let there = subst (λ b. Tells b refusal before after result) (slice ∙ text) tells in
    (given, inl refl, subst (λ r. Tells (body_text given) r before after result) of there)
