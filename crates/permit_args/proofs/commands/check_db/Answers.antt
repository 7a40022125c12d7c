use Rattle.permit_args.specs.Plans.{check_db_app}
use Rattle.permit_args.proofs.commands.check_db.Goals as goal

pub returns : goal.returns
unfolding check_db_app
returns c = c.why.ensures _ (c.copy.ensures _ (c.option.ensures _ (c.database.ensures _ c.new.ensures)))
