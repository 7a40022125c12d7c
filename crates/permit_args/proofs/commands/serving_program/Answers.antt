use Rattle.permit_args.specs.Plans.{serving_app}
use Rattle.permit_args.proofs.commands.serving_program.Goals as goal

pub returns : goal.returns
unfolding serving_app
returns c = c.subcommand-4.ensures _ c.check_db.ensures _ (c.subcommand-3.ensures _ c.upgrade.ensures _ (c.subcommand-2.ensures _ c.serve.ensures _ (c.subcommand.ensures _ c.import.ensures _ c.asking_program.ensures)))
