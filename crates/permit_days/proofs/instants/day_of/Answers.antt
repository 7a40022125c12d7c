use Rattle.std.proofs.Common.{◌≡◌, true, false, arith, refl}
use Rattle.std.proofs.lemmas.Int.{ints}
use Rattle.permit_days.proofs.Showing.{one_day}
use Rattle.permit_days.proofs.instants.day_of.Goals as goal

pub returns-then-shown-lt0-clause-range : goal.returns-then-shown-lt0-clause-range
returns-then-shown-lt0-clause-range c = (
  refl,
  λ day small is.
      let same = one_day _ _ c.to_datetime.result day c.to_datetime.ensures is in
      let at = rw (← c.date.ensures, ← c.number-shown.ensures) at same in
      absurd (omega (arith, ints, at)),
)

pub returns-in-Some-clause-day : goal.returns-in-Some-clause-day
returns-in-Some-clause-day c =
    (c.to_datetime.result, c.to_datetime.ensures, rw (← c.date.ensures, ← c.number-shown.ensures) (omega (arith, ints, c.in-Some.ensures.same)))

pub returns-in-None-clause-range : goal.returns-in-None-clause-range
returns-in-None-clause-range c = (
  refl,
  λ day small is.
      let same = one_day _ _ c.to_datetime.result day c.to_datetime.ensures is in
      let at = rw (← c.date.ensures, ← c.number-shown.ensures) at same in
      let bad : false ≡ true = c.in-None.ensures.within.1 (omega (arith, ints, at)) in cc,
)
