use Rattle.permit_args.specs.Plans.{begin_history_app}
use Rattle.permit_args.proofs.commands.begin_history.Goals as goal

pub returns : goal.returns
unfolding begin_history_app
returns c = c.why.ensures _ (c.required_option.ensures _ (c.database.ensures _ c.new.ensures))
