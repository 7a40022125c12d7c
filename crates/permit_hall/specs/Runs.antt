-- A run of a service, which serves one request after the other.
use Rattle.std.specs.Prelude.{◌≡◌, ℕ, List, [], ◌∷◌, map, filter, ◌==◌}

-- a request that was served: of which session, on which day, and the reply
pub record Entry (A Y : Type 0) : Type 0 where
  pub from : ℕ
  pub request : A
  pub day : ℕ
  pub reply : Y

module _ {S A Y : Type 0} (step : S → A → ℕ → Y → S → Type 0) where
  -- the entries, one after the other, take the service from s to t
  abbrev pub Runs : S → List (Entry A Y) → S → Type 0
  Runs s [] t = s ≡ t
  Runs s (e ∷ es) t = (u : S) × step s e.request e.day e.reply u × Runs u es t

module _ {C : Type 0} (tick : C → ℕ → C → Type 0) where
  -- a clock was asked once for each of the days, in order, and gave it
  abbrev pub Gives : C → List ℕ → C → Type 0
  Gives c [] d = c ≡ d
  Gives c (day ∷ days) d = (u : C) × tick c day u × Gives u days d

module _ {A Y : Type 0} where
  -- the days, in order
  abbrev pub days_of : List (Entry A Y) → List ℕ
  days_of es = map (λ e. e.day) es

  -- the requests of a session, in order, and the replies to them
  abbrev pub requests_of : ℕ → List (Entry A Y) → List A
  requests_of session es = map (λ e. e.request) (filter (λ e. e.from == session) es)

  abbrev pub replies_of : ℕ → List (Entry A Y) → List Y
  replies_of session es = map (λ e. e.reply) (filter (λ e. e.from == session) es)
