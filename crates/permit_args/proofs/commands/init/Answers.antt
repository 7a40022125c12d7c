use Rattle.permit_args.specs.Plans.{init_app}
use Rattle.permit_args.proofs.commands.init.Goals as goal

pub returns : goal.returns
unfolding init_app
returns c = c.why.ensures _ (c.history.ensures _ (c.days.ensures _ (c.token.ensures _ (c.required_option.ensures _ (c.database.ensures _ c.new.ensures)))))
