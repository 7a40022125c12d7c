use Rattle.std.proofs.Common.{rules}
use Rattle.permit_hall.proofs.Owning.{serves_skip, serves_ask, mark_says_nothing, outsider_says_nothing}
use Rattle.permit_hall.proofs.owner.take_one.Goals as goal

pub returns-in_default-clause-served : goal.returns-in_default-clause-served
returns-in_default-clause-served g c n got start first served is h s = (
  served,
  serves_skip _ _ n got start _ first _ served c.args.envelope (λ p low. mark_says_nothing p got c.args.envelope (search rules)) h,
  s,
)

pub returns-then-from-len-clause-served : goal.returns-then-from-len-clause-served
returns-then-from-len-clause-served g c n got start first served is h s = (
  served,
  serves_skip _ _ n got start _ first _ served c.args.envelope (λ p low. outsider_says_nothing n p got c.args.envelope (search rules) low) h,
  s,
)

pub returns-clause-served : goal.returns-clause-served
returns-clause-served g c n got start first served is h s =
    let r = c.answer.ensures.served served s in (
      _,
      serves_ask _ _ n got start _ _ first _ _ served c.args.envelope c.in-Some.request r.0 r.1 (search rules) (search rules) r.2 r.3 h,
      r.4,
    )
