-- What the workers give back, beside what was served.
use Rattle.std.specs.Prelude.{◌≡◌, ◌<◌, ℕ, List, [], length, slice_index_or, Option, MatchOption, All}
use Rattle.permit_hall.specs.Runs.{Entry, Runs, Gives, days_of, requests_of, replies_of}

-- Where the worker gave something back, the task was done with the session's requests among the served ones, and with the
-- service's replies to them. Where it gave nothing back, no request of the session was served.
abbrev pub AreAnswers : {A Y O T : Type 0} → (T → List A → List Y → O → Type 0) → List (Entry A Y) → ℕ → T → Option O → Type 0
AreAnswers did served session task out =
    MatchOption out (requests_of session served ≡ []) (λ x. did task (requests_of session served) (replies_of session served) x)

-- The served requests, one after the other, take the service from s to t. The clock is asked once for each, and goes from c to
-- d. Each request is of one of the tasks, and what each task gave back is right.
pub record AreServed {S A Y O T C : Type 0} (step : S → A → ℕ → Y → S → Type 0) (tick : C → ℕ → C → Type 0)
    (did : T → List A → List Y → O → Type 0) (tasks : List T) (outs : List (Option O)) (s t : S) (c d : C) (served : List (Entry A Y)) : Type 0 where
  pub runs : Runs step s served t
  pub days : Gives tick c (days_of served) d
  pub each : All (λ e. e.from < length tasks) served
  pub len : length outs ≡ length tasks
  pub right : (k : ℕ) (l : T) (a : Option O) → k < length tasks → AreAnswers did served k (slice_index_or tasks k l) (slice_index_or outs k a)
