use Rattle.permit_args.specs.Plans.{list_app}
use Rattle.permit_args.proofs.commands.list.Goals as goal

pub returns : goal.returns
unfolding list_app
returns c = c.option.ensures _ (c.office.ensures _ c.new.ensures)
