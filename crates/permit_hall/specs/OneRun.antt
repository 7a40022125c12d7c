-- One run for all threads: what the workers of a hall had its service serve.
use Rattle.std.specs.Prelude.{◌<◌, ℕ, List, All}
use Rattle.permit_base.specs.declared.request.Asked.{Asked}
use Rattle.permit_wire.specs.declared.service.Dated.{Dated}
use Rattle.permit_hall.specs.Runs.{Entry, Runs, Gives, days_of}

-- The requests served, each of one of the sessions, take the service from old to new, one after the other. The clock is asked
-- once for each, as it is taken, and goes from c to d.
pub record OneRun {T C : Type 0} (did : T → Asked → ℕ → Dated → T → Type 0) (tick : C → ℕ → C → Type 0) (sessions : ℕ)
    (old new : T) (c d : C) (served : List (Entry Asked Dated)) : Type 0 where
  pub runs : Runs did old served new
  pub days : Gives tick c (days_of served) d
  pub each : All (λ e. e.from < sessions) served
