-- What trying one record does.
use Rattle.std.specs.Prelude.{◌≡◌, ℕ, List, Option, None, Some}
use Rattle.permit_base.specs.declared.request.Asked.{Asked}
use Rattle.permit_base.specs.declared.request.Request.{Request}
use Rattle.permit_office.specs.declared.reply.Reply.{Reply}
use Rattle.permit_wire.specs.declared.service.Dated.{Dated}
use Rattle.permit_import.specs.Outcomes.{outcome_of, unasked}
use Rattle.permit_import.specs.Records.{Fields, asked_by}
use Rattle.permit_import.specs.Runs.{Gave}
use Rattle.permit_import.specs.declared.outcome.Outcome.{Outcome}

-- a record that is no request never reaches the service; any other comes to what the reply to its request makes of it
abbrev pub Tries : {T : Type 0} → (T → Asked → ℕ → Dated → T → Type 0) → List ℕ → ℕ → Fields → Option Request → T → T → Outcome → Type 0
Tries did token day row None old new outcome = (new ≡ old) × (outcome ≡ unasked row)
Tries did token day row (Some request) old new outcome =
    (reply : Reply) × Gave did (asked_by token request, day) reply old new × (outcome ≡ outcome_of reply)
