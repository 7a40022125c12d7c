use Rattle.permit_args.specs.Plans.{check_policy_app}
use Rattle.permit_args.proofs.commands.check_policy.Goals as goal

pub returns : goal.returns
unfolding check_policy_app
returns c =
    c.why.ensures _ (c.flag-4.ensures _ (c.flag-3.ensures _ (c.flag-2.ensures _ (c.option-2.ensures _ (c.option.ensures _ (c.flag.ensures _ (c.policy.ensures _ c.new.ensures)))))))
