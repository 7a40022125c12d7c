use Rattle.permit_args.specs.Plans.{upgrade_app}
use Rattle.permit_args.proofs.commands.upgrade.Goals as goal

pub returns : goal.returns
unfolding upgrade_app
returns c = c.why.ensures _ (c.no_history.ensures _ (c.option.ensures _ (c.database.ensures _ c.new.ensures)))
