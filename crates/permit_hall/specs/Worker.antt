-- What a worker does in its session.
use Rattle.std.specs.Prelude.{◌≡◌, List, [], length, MatchOption}
use Rattle.permit_hall.specs.declared.session.Session.{Session}
use Rattle.permit_hall.specs.declared.worker.Done.{Done}
use Rattle.permit_hall.specs.declared.worker.State.{State}
use Rattle.permit_hall.specs.declared.worker.State.TheVariants.{Running, Left}
use Rattle.permit_hall.specs.Session.{Has, IsSession, IsSamePlace, put_by, got_by}

module _ {A Y O T : Type 0} (did : T → List A → List Y → O → Type 0) where
  -- Where the worker gave something back, the task was done, and each request has its answer. Where it gave nothing back, nothing
  -- was put. The session is that of the worker in both cases.
  abbrev pub IsDone : Session A Y → T → Done A Y O → Type 0
  IsDone place task d =
      IsSamePlace place d.session
      × MatchOption d.out (Has d.session [] []) (λ x.
      IsSession d.session × (length (put_by d.session) ≡ length (got_by d.session)) × did task (put_by d.session) (got_by d.session) x)

  -- what it will give back once it has run, or gave back where no thread was made, is that
  abbrev pub WillBe : Session A Y → T → State A Y O T → Type 0
  WillBe place task (Running h) = (h.promise.place.value ≡ place) × (h.promise.task.value ≡ task)
  WillBe place task (Left d) = IsDone place task d
