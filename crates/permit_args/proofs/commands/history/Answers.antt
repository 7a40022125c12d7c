use Rattle.permit_args.specs.Plans.{history_app}
use Rattle.permit_args.proofs.commands.history.Goals as goal

pub returns : goal.returns
unfolding history_app
returns c = c.why.ensures _ (c.pair.ensures _ (c.option-5.ensures _ (c.option-4.ensures _ (c.option-3.ensures _ (c.option-2.ensures _ (c.option.ensures _ (c.required_option.ensures _ c.new.ensures)))))))
