-- The digits of numbers are opened, so that each date computes.
use Rattle.std.proofs.Common.{refl}
use Rattle.std.specs.Fmt.{digits}
use Rattle.permit_model.proofs.registers.date_texts.Goals as goal

pub returns-clause-first : goal.returns-clause-first
unfolding digits
returns-clause-first c = refl

pub returns-clause-new_year : goal.returns-clause-new_year
unfolding digits
returns-clause-new_year c = refl

pub returns-clause-leap_day : goal.returns-clause-leap_day
unfolding digits
returns-clause-leap_day c = refl

pub returns-clause-deadline : goal.returns-clause-deadline
unfolding digits
returns-clause-deadline c = refl

pub returns-clause-requested : goal.returns-clause-requested
unfolding digits
returns-clause-requested c = refl

pub returns-clause-last : goal.returns-clause-last
unfolding digits
returns-clause-last c = refl
